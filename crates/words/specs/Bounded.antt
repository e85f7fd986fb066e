-- Answers that a result word holds: their refusal's number and their count of cells are small. Every call gives such.
use Rattle.std.specs.Prelude.{◌^◌, ◌≤◌, ◌<◌}
use Rattle.plain.specs.Requests.{Reply, new, old_subgoal, old_answer, done, at, none_yet, no_more, cells, used, joined}
use Rattle.plain.specs.Requests.{because, detoured, refused, short}
use Rattle.store.specs.Building.{BuildReply}
use Rattle.store.specs.Building as build
use Rattle.agreement.specs.Faults.{Fault, nothing, heading, node, subgoal, answer}

abbrev pub Bounded : Reply → Type 0
Bounded (refused r) = r ≤ 22
Bounded (cells n) = n < 2 ^ 32
Bounded (short n) = n < 2 ^ 32
Bounded (new n) = Unit {0}
Bounded (old_subgoal n s) = Unit {0}
Bounded (old_answer n) = Unit {0}
Bounded done = Unit {0}
Bounded (at n) = Unit {0}
Bounded none_yet = Unit {0}
Bounded no_more = Unit {0}
Bounded (used c) = Unit {0}
Bounded (joined n) = Unit {0}
Bounded (because y) = Unit {0}
Bounded (detoured y) = Unit {0}

-- Faults that it holds: every record's number is small.
abbrev pub FaultBounded : Fault → Type 0
FaultBounded nothing = Unit {0}
FaultBounded heading = Unit {0}
FaultBounded (node n) = n < 2 ^ 28
FaultBounded (subgoal s) = s < 2 ^ 28
FaultBounded (answer a) = a < 2 ^ 28

-- Answers of the build that it holds: their refusal's number and their count of children are small.
abbrev pub BuildBounded : BuildReply → Type 0
BuildBounded (build.built n) = n < 2 ^ 32
BuildBounded (build.refused r) = r ≤ 22
