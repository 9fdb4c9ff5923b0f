-- What a point does to layouts: what its elements do, one after another.
use Rattle.std.proofs.Common.{ℕ, sym, subst}
use Rattle.std.specs.List.{fold}
use Rattle.vk_model.specs.World.Bytes.{World}
use Rattle.vk_model.specs.World.ByteWrites.{byte_writes}
use Rattle.vk_model.specs.World.Effect.{used, after_writes, after_element, after_action}
use Rattle.vk_model.specs.World.Ownership.{family_of, uses}
use Rattle.vk_model.specs.Trace.Point.{Past, Action, Host, Wait, Run, Signal}
use Rattle.vk_laws.proofs.Forms.Unchanged.{ready_layout, host_layout}
use Rattle.vk_history.specs.declared.layouts.CurrentLayouts.{CurrentLayouts}
use Rattle.vk_history.specs.Layouts.{AreKept, elements_at}

-- layouts that go with the elements of a point go with the point
pub point_kept : (t u : CurrentLayouts) (past : Past) (q : ℕ) (a : Action)
    → ((w : World) → AreKept t past w.layout → AreKept u past (fold (after_element past (family_of q)) w (elements_at a)).layout)
    → (w : World) → AreKept t past w.layout → AreKept u past (after_action past q a w).layout
point_kept t u past q (Host x) step w kept = subst (λ (l : ℕ → ℕ → ℕ → ℕ). AreKept u past l) (sym (host_layout past x w)) (step w kept)
point_kept t u past q (Wait s) step w kept = step w kept
point_kept t u past q (Signal s) step w kept = step w kept
point_kept t u past q (Run c) step w kept =
    let ready : World = fold (λ v r. used past (family_of q) r v) w (uses c) in
    step (record ready { value = after_writes (byte_writes past c) ready.value }) (subst (λ (l : ℕ → ℕ → ℕ → ℕ). AreKept t past l) (sym (ready_layout past (family_of q) (uses c) w)) kept)
