-- `words::detours::write_numbers` meets its contract.
use Rattle.words.proofs.DetourWords.{numbers-stand}
use Rattle.words.proofs.detours.write_numbers.Goals as goal

pub returns : goal.returns
returns c =
    numbers-stand c.args.numbers.now c.args.count c.min.result c.args.out.now
    c.told-numbers c.min.ensures c.requires c.copy.new.out
    c.copy.ensures
