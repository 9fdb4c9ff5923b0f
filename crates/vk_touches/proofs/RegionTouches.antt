-- What the regions of a copy touch.
use Rattle.std.proofs.Common.{◌≡◌, ◌<◌, ◌+◌, ℕ, List, [], ◌∷◌, length, slice_get, take, get_or, Bool, true, false, ◌||◌, ◌==◌, refl, ap, sym, ◌∙◌, Option, Some, None}
use Rattle.std.specs.Prelude.{if◌then◌else◌}
use Rattle.std.specs.Option.{option_map}
use Rattle.std.specs.List.{list_any}
use Rattle.std.proofs.Math.Bool.{or-false}
use Rattle.std.proofs.lemmas.List.{take_more}
use Rattle.std.proofs.lemmas.List.Folds.{list_any-append}
use Rattle.vk_model.specs.declared.command.BufferCopy.{BufferCopy}
use Rattle.vk_touches.specs.declared.touches.LastTouches.{LastTouches}
use Rattle.vk_touches.specs.declared.touches.QueueReads.{QueueReads}
use Rattle.vk_touches.specs.declared.touches.Spot.{Spot}
use Rattle.vk_touches.specs.declared.touches.Touch.{Touch}
use Rattle.vk_touches.specs.declared.touches.Touch.TheVariants as touch
use Rattle.vk_touches.specs.Remembered.{with_touch}
use Rattle.vk_touches.specs.TouchedRanges.{touching}

-- a byte that was touched twice by one node
touch_twice : (t : LastTouches) (w : Touch) (s : Spot) → with_touch (with_touch t w s) w s ≡ with_touch t w s
touch_twice t touch.Write s = refl
touch_twice t touch.HostWrite s = refl
touch_twice t touch.HostRead s = refl
touch_twice t (touch.Read q) s = ap (λ (r : QueueReads). record t { reads = r }) (go (q == 0) (q == 1) (q == 2) (q == 3)) where
  by : Bool → Bool → Bool → Bool → QueueReads → QueueReads
  by a b c d r = if a then record r { first = Some s.place } else if b then record r { second = Some s.place } else if c then record r { third = Some s.place } else if d then record r { fourth = Some s.place } else r

  go : (a b c d : Bool) → by a b c d (by a b c d t.reads) ≡ by a b c d t.reads
  go true b c d = refl
  go false true c d = refl
  go false false true d = refl
  go false false false true = refl
  go false false false false = refl

-- one more range
pub touching_more : (test more : ℕ → Bool) (w : Touch) (s : Spot) (k : ℕ) (o : Option LastTouches) → option_map (touching more w s k) (option_map (touching test w s k) o) ≡ option_map (touching (λ k. test k || more k) w s k) o
touching_more test more w s k None = refl
touching_more test more w s k (Some t) = ap Some (go (test k) (more k)) where
  go : (a b : Bool) → (if b then with_touch (if a then with_touch t w s else t) w s else if a then with_touch t w s else t) ≡ (if a || b then with_touch t w s else t)
  go true true = touch_twice t w s
  go true false = refl
  go false true = refl
  go false false = refl

-- ---- regions one after another

any_next : (f : BufferCopy → Bool) (gs : List BufferCopy) (i : ℕ) (d : BufferCopy) → i < length gs → list_any f (take (i + 1) gs) ≡ (list_any f (take i gs) || f (get_or gs i d))
any_next f gs i d lt = ap (list_any f) (take_more gs i d lt) ∙ list_any-append f (take i gs) (get_or gs i d ∷ []) ∙ ap (λ (b : Bool). list_any f (take i gs) || b) (or-false (f (get_or gs i d)))

-- what the first regions touch, and the next one
pub touch_next_region : (test : BufferCopy → ℕ → Bool) (gs : List BufferCopy) (i : ℕ) (d : BufferCopy) → i < length gs → (w : Touch) (s : Spot) (old mid new : List LastTouches)
    → ((k : ℕ) → slice_get mid k ≡ option_map (touching (λ k. list_any (λ g. test g k) (take i gs)) w s k) (slice_get old k))
    → ((k : ℕ) → slice_get new k ≡ option_map (touching (test (get_or gs i d)) w s k) (slice_get mid k))
    → (k : ℕ) → slice_get new k ≡ option_map (touching (λ k. list_any (λ g. test g k) (take (i + 1) gs)) w s k) (slice_get old k)
touch_next_region test gs i d lt w s old mid new first next k =
    next k ∙ ap (option_map (touching (test (get_or gs i d)) w s k)) (first k)
    ∙ touching_more (λ k. list_any (λ g. test g k) (take i gs)) (test (get_or gs i d)) w s k (slice_get old k)
    ∙ ap (λ (b : Bool). option_map (λ t. if b then with_touch t w s else t) (slice_get old k)) (sym (any_next (λ g. test g k) gs i d lt))
