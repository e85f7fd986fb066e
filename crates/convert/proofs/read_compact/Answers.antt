-- `read_compact` meets its contract: each answer by its law.
use Rattle.forms.specs.Places.{placed}
use Rattle.std.specs.Prelude.{Some}
use native.Mathlib.Omega.{arith}
use Rattle.forms.specs.Cells.{arity_of}
use Rattle.forms.specs.Stored.{compact_stored}
use Rattle.pair_reader.specs.Storing.{TermsRan}
use Rattle.convert.proofs.ReadingLaws.{reading-long, reading-few, reading-malformed, reading-left, reading-crowded, reading-form}
use Rattle.convert.proofs.read_compact.Goals as goal

pub returns-then-n-gt-MOST_CELLS : goal.returns-then-n-gt-MOST_CELLS
returns-then-n-gt-MOST_CELLS c = (reading-long (arity_of c.args.edition) (compact_stored (arity_of c.args.edition)) c.args.m c.args.s.now c.if-n-gt-MOST_CELLS.true, tt, tt)

pub returns-then-n-m : goal.returns-then-n-m
returns-then-n-m c = (reading-few (arity_of c.args.edition) (compact_stored (arity_of c.args.edition)) c.args.m c.args.s.now c.if-n-gt-MOST_CELLS.false c.if-n-m.true, tt, tt)

pub terms-requires : goal.terms-requires
terms-requires c = let r = c.requires c.if-n-gt-MOST_CELLS.false in omega (arith, r)

pub returns-in_default : goal.returns-in_default
returns-in_default c = (reading-malformed (arity_of c.args.edition) c.args.m c.args.s.now c.if-n-gt-MOST_CELLS.false (rw c.in_default.is at c.terms.ensures), tt, tt)

pub returns-then-read-n : goal.returns-then-read-n
returns-then-read-n c =
    let got_here : TermsRan (arity_of c.args.edition) c.args.s.now 0 c.args.m c.args.vars.now 0 c.args.form.now 0 c.terms.new.vars c.terms.new.out (Some (placed c.in-Some.read.at c.in-Some.read.to c.in-Some.read.count)) = rw c.in-Some.is at c.terms.ensures in
    (reading-left (arity_of c.args.edition) c.args.m c.args.s.now c.if-n-gt-MOST_CELLS.false _ _ _ _ _ _ _ (got_here) c.if-read-n.true, tt, tt)

pub returns-then-read-gt-MOST_VARIABLES : goal.returns-then-read-gt-MOST_VARIABLES
returns-then-read-gt-MOST_VARIABLES c =
    let got_here : TermsRan (arity_of c.args.edition) c.args.s.now 0 c.args.m c.args.vars.now 0 c.args.form.now 0 c.terms.new.vars c.terms.new.out (Some (placed c.in-Some.read.at c.in-Some.read.to c.in-Some.read.count)) = rw c.in-Some.is at c.terms.ensures in
    (reading-crowded (arity_of c.args.edition) c.args.m c.args.s.now c.if-n-gt-MOST_CELLS.false _ _ _ _ _ _ _ (got_here) c.if-read-n.false c.if-read-gt-MOST_VARIABLES.true, tt, tt)

pub returns : goal.returns
returns c =
    let got_here : TermsRan (arity_of c.args.edition) c.args.s.now 0 c.args.m c.args.vars.now 0 c.args.form.now 0 c.terms.new.vars c.terms.new.out (Some (placed c.in-Some.read.at c.in-Some.read.to c.in-Some.read.count)) = rw c.in-Some.is at c.terms.ensures in
    reading-form (arity_of c.args.edition) c.args.m c.args.s.now c.if-n-gt-MOST_CELLS.false _ _ _ _ _ _ _ (got_here) c.if-read-n.false c.if-read-gt-MOST_VARIABLES.false (c.requires c.if-n-gt-MOST_CELLS.false).1
