-- `detours::judging::is_offer` meets its contract.
use mathlib.Core.Path.{sym, ◌∙◌}
use Rattle.basis.proofs.Both.{both-on, both-off}
use Rattle.basis.proofs.Tests.{told}
use Rattle.detours.proofs.JudgeCases.{above_in, last-damaged, last-root, above-damaged, above_root, root-damaged, root_told, root-other, root-above}
use Rattle.detours.proofs.judging.is_offer.Goals.{then-root-first-via-then-root-first, then-root-first-via-else-root-first+then-first-end}
use Rattle.detours.proofs.judging.is_offer.Goals as goal

pub returns-in_default : goal.returns-in_default
returns-in_default c = last-damaged c.args.space.now c.args.end (told c.in_default.is c.read_rising_node.ensures)

pub returns-then-last-end : goal.returns-then-last-end
returns-then-last-end c =
    last-root c.args.space.now c.args.end c.in-Some.last
    (told c.in-Some.is c.read_rising_node.ensures)
    c.if-last-end.true

pub read_rising_node-requires-2 : goal.read_rising_node-requires-2
read_rising_node-requires-2 c = (
  c.requires.0,
  above_in c.args.space.now c.args.end c.args.end.leaf c.in-Some.last
      (told c.in-Some.is c.read_rising_node.ensures)
      c.requires.1,
)

pub returns-in_default-read_rising_node : goal.returns-in_default-read_rising_node
returns-in_default-read_rising_node c =
    above-damaged c.args.space.now c.args.end c.in-Some.last
    (told c.in-Some.is c.read_rising_node.ensures)
    c.if-last-end.false (told c.in_default-read_rising_node.is c.read_rising_node-2.ensures)

pub returns-then-first-last : goal.returns-then-first-last
returns-then-first-last c =
    above_root c.args.space.now c.args.end c.in-Some.last
    (told c.in-Some.is c.read_rising_node.ensures)
    c.if-last-end.false c.in-Some-read_rising_node.first
    (told c.in-Some-read_rising_node.is c.read_rising_node-2.ensures)
    c.if-first-last.true

pub read_rising_node-requires-3 : goal.read_rising_node-requires-3
read_rising_node-requires-3 c = (
  c.requires.0,
  above_in c.args.space.now c.args.end _ c.in-Some-read_rising_node.first
      (told c.in-Some-read_rising_node.is c.read_rising_node-2.ensures)
      (above_in c.args.space.now c.args.end c.args.end.leaf c.in-Some.last
      (told c.in-Some.is c.read_rising_node.ensures)
      c.requires.1),
)

pub returns-in_default-read_rising_node-2 : goal.returns-in_default-read_rising_node-2
returns-in_default-read_rising_node-2 c =
    root-damaged c.args.space.now c.args.end c.in-Some.last
    (told c.in-Some.is c.read_rising_node.ensures)
    c.if-last-end.false c.in-Some-read_rising_node.first
    (told c.in-Some-read_rising_node.is c.read_rising_node-2.ensures)
    c.if-first-last.false (told c.in_default-read_rising_node-2.is c.read_rising_node-3.ensures)

pub returns-then-root-first : goal.returns-then-root-first
returns-then-root-first c = elim c.then-root-first.branch [
  | then-root-first-via-then-root-first w ↦
      root-above c.args.space.now c.args.end c.in-Some.last
      (told c.in-Some.is c.read_rising_node.ensures)
      c.if-last-end.false c.in-Some-read_rising_node.first
      (told c.in-Some-read_rising_node.is c.read_rising_node-2.ensures)
      c.if-first-last.false c.in-Some-read_rising_node-2.root
      (told c.in-Some-read_rising_node-2.is c.read_rising_node-3.ensures) w.if-root-first.true
  | then-root-first-via-else-root-first+then-first-end w ↦
      root-other c.args.space.now c.args.end c.in-Some.last
      (told c.in-Some.is c.read_rising_node.ensures)
      c.if-last-end.false c.in-Some-read_rising_node.first
      (told c.in-Some-read_rising_node.is c.read_rising_node-2.ensures)
      c.if-first-last.false c.in-Some-read_rising_node-2.root
      (told c.in-Some-read_rising_node-2.is c.read_rising_node-3.ensures) w.if-root-first.false w.if-first-end.true
]

pub returns-then-is_atom : goal.returns-then-is_atom
returns-then-is_atom c =
    both-on (sym c.is_atom.ensures ∙ c.if-is_atom.true) c.is_integer.ensures ∙
    (root_told c.args.space.now c.args.end c.in-Some.last
    (told c.in-Some.is c.read_rising_node.ensures)
    c.if-last-end.false c.in-Some-read_rising_node.first
    (told c.in-Some-read_rising_node.is c.read_rising_node-2.ensures)
    c.if-first-last.false c.in-Some-read_rising_node-2.root
    (told c.in-Some-read_rising_node-2.is c.read_rising_node-3.ensures)
    c.if-root-first.false c.if-first-end.false)

pub returns-else-is_atom : goal.returns-else-is_atom
returns-else-is_atom c =
    both-off _ (sym c.is_atom.ensures ∙ c.if-is_atom.false) c.is_atom.ensures ∙
    (root_told c.args.space.now c.args.end c.in-Some.last
    (told c.in-Some.is c.read_rising_node.ensures)
    c.if-last-end.false c.in-Some-read_rising_node.first
    (told c.in-Some-read_rising_node.is c.read_rising_node-2.ensures)
    c.if-first-last.false c.in-Some-read_rising_node-2.root
    (told c.in-Some-read_rising_node-2.is c.read_rising_node-3.ensures)
    c.if-root-first.false c.if-first-end.false)
