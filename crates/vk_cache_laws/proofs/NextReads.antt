-- What an entry adds to the reads of a past.
use Rattle.std.proofs.Common.{◌≡◌, ℕ, [], ◌∷◌, ◌++◌, refl, ap, ◌∙◌, append-nil, None}
use Rattle.vk_model.specs.declared.entry.Entry.{Entry}
use Rattle.vk_model.specs.Trace.Point.{Past, Action, Host, Wait, Run, Signal, host_of}
use Rattle.vk_model.specs.Trace.Order.{Front, after_entry, host}
use Rattle.vk_model.proofs.Trace.Growing.{Quiet, entry_grows}
use Rattle.vk_model.proofs.Lists.Pairs.{Each}
use Rattle.vk_model.specs.World.Effect.{world}
use Rattle.vk_model.specs.World.Meaning.{Reads, reads, read_by, read_in}

-- only host entries read
quiet_reads : (newer past : Past) → Each Quiet newer → reads (newer ++ past) ≡ reads past
quiet_reads [] past each = refl
quiet_reads (p ∷ newer) past each = ap (λ (r : Reads). reads (newer ++ past) ++ r) (mute p.action each.0) ∙ append-nil (reads (newer ++ past)) ∙ quiet_reads newer past each.1
  where
    mute : (a : Action) → host_of a ≡ None → read_by (world (newer ++ past)) p.entry a ≡ []
    mute (Host x) none = absurd cc
    mute (Wait w) none = refl
    mute (Run c) none = refl
    mute (Signal w) none = refl

-- the reads after one entry more
pub reads_next : (e : ℕ) (x : Entry) (f : Front) → reads (after_entry e x f).past ≡ reads f.past ++ read_in (world f.past) e x
reads_next e x f = let g = entry_grows e x f in ap reads g.whole ∙ quiet_reads g.newer (host e x ∷ f.past) g.each
