use Rattle.std.proofs.Common.{◌≡◌, ℕ, zero, suc, List, replicate, refl, ap, ◌∙◌, ◌∷◌, Option, None}
use Rattle.vk_model.specs.Run.Caches.{Held}
use Rattle.vk_map_cache.specs.declared.mark.Mark.{Mark}
use Rattle.vk_map_cache.specs.declared.mark.Mark.TheVariants.{Absent}
use Rattle.vk_map_cache.specs.Inner.Marks.{holdings_of}
use Rattle.vk_map_cache.proofs.queue_object.QueueObject.new.Goals as goal

none_held : (n byte : ℕ) → holdings_of (replicate n Absent) (replicate n byte) ≡ replicate n None
none_held zero byte = refl
none_held (suc n) byte = ap (λ (l : List (Option Held)). None ∷ l) (none_held n byte)

pub returns : goal.returns
returns c =
    ap (λ (l : List Mark). holdings_of l c.in_ok-values.values) c.in_ok-marks.ensures
    ∙ ap (λ (l : List ℕ). holdings_of (replicate c.args.size Absent) l) c.in_ok-values.ensures
    ∙ none_held c.args.size 205
