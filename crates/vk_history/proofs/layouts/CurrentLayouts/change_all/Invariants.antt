use Rattle.std.proofs.Common.{take}
use Rattle.std.specs.List.{fold}
use Rattle.vk_model.specs.Trace.Point.{Past}
use Rattle.vk_model.specs.World.Bytes.{World}
use Rattle.vk_model.specs.World.Effect.{after_element}
use Rattle.vk_history.specs.Layouts.{AreKept, AreThere}
use Rattle.vk_history.specs.Tabled.{AreObjects}
use Rattle.vk_history.proofs.layouts.CurrentLayouts.change_all.Given as goal

abbrev pub invariant-loop-element : goal.invariant-loop-element
invariant-loop-element l =
    (past : Past) (w : World) → AreObjects l.objects past → AreThere past l.elements → AreKept l.fn.self past w.layout → AreKept l.self past (fold (after_element past l.family) w (take l.element-index l.elements)).layout
