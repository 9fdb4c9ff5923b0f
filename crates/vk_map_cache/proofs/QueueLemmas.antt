-- Lemmas on what a queue's cache holds of many objects, of which one is changed.
use Rattle.std.proofs.Common.{◌≡◌, ◌≢◌, ℕ, zero, suc, ◌-◌, ◌<◌, List, [], ◌++◌, ◌∷◌, length, get_or, set, refl, ap, sym, ◌∙◌, arith, Option, Some, None, get_or-set_other, inl, inr}
use Rattle.std.proofs.Math.ListN.{get_or-map}
use Rattle.std.proofs.lemmas.Bool.{cases_lt}
use Rattle.std.proofs.lemmas.List.{get_or-set_same, get_or_past, get_or_append_left, get_or-append_right}
use Rattle.vk_model.specs.Run.Caches.{Held, Cell}
use Rattle.vk_map_cache.specs.Holdings.{Holdings, object_in, held_in, IsCellOf, ChangesOf, SameRoom}
use Rattle.vk_map_cache.specs.Inner.Objects.{held_of, all_held}
use Rattle.vk_map_cache.proofs.CellLemmas.{same_cell}

-- the objects that a cache has room for
abbrev pub Objects : Type 0
Objects = List (Option (List (Option Held)))

-- what is held of an object
pub object_in-all_held : (objects : Objects) (number : ℕ) → object_in (all_held objects) number ≡ held_of (get_or objects number None)
object_in-all_held objects number = get_or-map held_of objects number None

-- one that was not added
abbrev pub not_added : Objects
not_added = None ∷ []

none_added : (k : ℕ) → get_or not_added k None ≡ None
none_added zero = refl
none_added (suc k) = refl

-- one more of them holds nothing
pub object_in-more : (objects : Objects) (number : ℕ) → object_in (all_held (objects ++ not_added)) number ≡ object_in (all_held objects) number
object_in-more objects number = object_in-all_held (objects ++ not_added) number ∙ ap (λ (o : Option (List (Option Held))). held_of o) more ∙ sym (object_in-all_held objects number)
  where
    more : get_or (objects ++ not_added) number None ≡ get_or objects number None
    more = elim (cases_lt number (length objects)) [
      | inl lt ↦ get_or_append_left objects not_added None number lt
      | inr ge ↦ get_or-append_right objects not_added (length objects) number None refl ge ∙ none_added (number - length objects) ∙ sym (get_or_past objects number None ge)
    ]

-- ---- one object is changed

module _ (objects : Objects) (old : Holdings) (view : all_held objects ≡ old) (memory : ℕ) (entry : Option (List (Option Held))) (named : memory < length objects) where
  pub object_anew : object_in (all_held (set objects memory entry)) memory ≡ held_of entry
  object_anew = object_in-all_held (set objects memory entry) memory ∙ ap (λ (o : Option (List (Option Held))). held_of o) (get_or-set_same objects memory entry None named)

  pub other_objects : (number : ℕ) → number ≢ memory → object_in (all_held (set objects memory entry)) number ≡ object_in old number
  other_objects number other =
      object_in-all_held (set objects memory entry) number ∙ ap (λ (o : Option (List (Option Held))). held_of o) (get_or-set_other objects memory number entry None other)
      ∙ sym (object_in-all_held objects number) ∙ ap (λ (h : Holdings). object_in h number) view

module _ (objects : Objects) (old : Holdings) (view : all_held objects ≡ old) (memory : ℕ) (object after : List (Option Held)) (named : memory < length objects) (is : get_or objects memory None ≡ Some object) where
  object_was : object_in old memory ≡ object
  object_was = sym (ap (λ (h : Holdings). object_in h memory) view) ∙ object_in-all_held objects memory ∙ ap (λ (o : Option (List (Option Held))). held_of o) is

  object_now : object_in (all_held (set objects memory (Some after))) memory ≡ after
  object_now = object_anew objects old view memory (Some after) named

  pub queue_changed : (a : ℕ) (f : ℕ → Cell → Cell) (region region' : List ℕ) → length region' ≡ length region
      → ((k : ℕ) (cell : Cell) → IsCellOf a (held_in object k) (get_or region k 0) cell → IsCellOf a (held_in after k) (get_or region' k 0) (f k cell))
      → ChangesOf a f memory old (all_held (set objects memory (Some after))) region region'
  queue_changed a f region region' long each = record {
    bytes = λ k cell was.
        same_cell (sym (ap (λ (o : List (Option Held)). held_in o k) object_now)) refl
        (each k cell (same_cell (ap (λ (o : List (Option Held)). held_in o k) object_was) refl was));
    others = λ number k other. ap (λ (o : List (Option Held)). held_in o k) (other_objects objects old view memory (Some after) named number other);
    size = long;
  }

  pub queue_room : length after ≡ length object → SameRoom old (all_held (set objects memory (Some after)))
  queue_room long number = elim (cases_lt number memory) [
    | inl below ↦ ap (λ (o : List (Option Held)). length o) (other_objects objects old view memory (Some after) named number (omega (arith, below)))
    | inr least ↦ elim (cases_lt memory number) [
      | inl above ↦ ap (λ (o : List (Option Held)). length o) (other_objects objects old view memory (Some after) named number (omega (arith, above)))
      | inr most ↦
          let at : number ≡ memory = omega (arith, least, most) in
          ap (λ (n : ℕ). length (object_in (all_held (set objects memory (Some after))) n)) at ∙ ap (λ (o : List (Option Held)). length o) object_now ∙ long
          ∙ sym (ap (λ (n : ℕ). length (object_in old n)) at ∙ ap (λ (o : List (Option Held)). length o) object_was)
    ]
  ]
