use Rattle.std.proofs.Common.{sym}
use Rattle.vk_history.specs.PointViews.{past}
use Rattle.vk_history.proofs.Kept.ImageCopies.{buffer_bytes_of}
use Rattle.vk_history.proofs.history.History.bytes.Goals as goal

pub returns-in-None : goal.returns-in-None
returns-in-None c = buffer_bytes_of (past c.args.self.now) c.args.resource (sym c.in-None.ensures)
