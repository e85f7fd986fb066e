-- `has_room` meets its contract.
use mathlib.Core.Path.{◌∙◌}
use borrow.Author.Tests.{lt-leb}
use Rattle.session.proofs.LineLaws.{room-short, room-left}
use Rattle.session.proofs.has_room.Goals as goal

pub returns-then-text-ge-REPLY_BYTES : goal.returns-then-text-ge-REPLY_BYTES
returns-then-text-ge-REPLY_BYTES c = room-left _ _ c.if-text-ge-REPLY_BYTES.true

pub returns-else-text-ge-REPLY_BYTES : goal.returns-else-text-ge-REPLY_BYTES
returns-else-text-ge-REPLY_BYTES c = lt-leb _ _ c.if-text-ge-REPLY_BYTES.false ∙ room-short _ _ c.if-text-ge-REPLY_BYTES.false
