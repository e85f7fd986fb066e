-- `load_compact` meets its contract: each answer by its law.
use Rattle.forms.specs.Places.{placed}
use borrow.Author.Rules.{rules}
use Rattle.std.specs.Prelude.{None, Some}
use mathlib.Core.Path.{◌≡◌}
use native.Mathlib.Omega.{arith}
use lib.ListN.{length}
use Rattle.forms.specs.Cells.{arity_of}
use Rattle.form_reader.specs.Loading.{FormsRan}
use Rattle.convert.proofs.LoadingLaws.{loading-many, loading-malformed, loading-left, loading-crowded, loading-terms, variables}
use Rattle.convert.proofs.load_compact.Goals as goal
use Rattle.convert.proofs.load_compact.Goals.{then-read-s-via-then-read-s, then-read-s-via-else-read-s+then-read-gt-MOST_VARIABLES}

pub returns-then-limit-m : goal.returns-then-limit-m
returns-then-limit-m c = ((loading-many (arity_of c.args.edition) c.args.m c.args.s.now c.limit_of-limit.result (length c.args.cells.now) c.requires c.limit_of-limit.ensures.2 c.if-limit-m.true, tt), tt)

pub terms-requires : goal.terms-requires
terms-requires c = omega (arith, c.limit_of-limit.ensures.0, c.limit_of-limit.ensures.1)

pub returns-in_err-read : goal.returns-in_err-read
returns-in_err-read c =
    let passed : c.from_residual.result ≡ None = search rules in rw passed ((loading-malformed (arity_of c.args.edition) c.args.m c.args.s.now c.limit_of-limit.result (length c.args.cells.now) c.requires c.limit_of-limit.ensures.2 c.args.cells.now c.terms.new.out (rw c.in_err-read.was at c.terms.ensures), tt), tt)

pub returns-then-read-s : goal.returns-then-read-s
returns-then-read-s c =
    let got_here : FormsRan (arity_of c.args.edition) c.args.s.now c.limit_of-limit.result 0 c.args.m 0 c.args.cells.now 0 c.terms.new.out (Some (placed c.in_ok-read.read.at c.in_ok-read.read.to c.in_ok-read.read.count)) = rw c.in_ok-read.was at c.terms.ensures in (
      (
        elim c.then-read-s.branch [
          | then-read-s-via-then-read-s w ↦ loading-left (arity_of c.args.edition) c.args.m c.args.s.now _ _ _ _ _ _ (got_here) w.if-read-s.true
          | then-read-s-via-else-read-s+then-read-gt-MOST_VARIABLES w ↦ loading-crowded (arity_of c.args.edition) c.args.m c.args.s.now _ _ _ _ _ _ (got_here) w.if-read-s.false w.if-read-gt-MOST_VARIABLES.true
        ],
        tt,
      ),
      tt,
    )

pub returns : goal.returns
returns c =
    let got_here : FormsRan (arity_of c.args.edition) c.args.s.now c.limit_of-limit.result 0 c.args.m 0 c.args.cells.now 0 c.terms.new.out (Some (placed c.in_ok-read.read.at c.in_ok-read.read.to c.in_ok-read.read.count)) = rw c.in_ok-read.was at c.terms.ensures in
    (loading-terms (arity_of c.args.edition) c.args.m c.args.s.now _ _ _ _ _ _ (got_here) c.if-read-s.false c.if-read-gt-MOST_VARIABLES.false c.limit_of-limit.ensures.1 c.limit_of-limit.ensures.0, variables (arity_of c.args.edition) c.args.m c.args.s.now _ _ _ _ _ _ (got_here) c.if-read-s.false)
