-- Memory catches up with bytes of one resource, part by part.
use Rattle.std.proofs.Common.{◌≡◌, ℕ, List, Bool, true, false, ◌||◌, length, Option, Some, None, refl, ap, sym, subst, ◌∙◌, inl, inr}
use Rattle.std.specs.Prelude.{if◌then◌else◌}
use Rattle.std.proofs.lemmas.Bool.{cases_eq}
use Rattle.vk_model.specs.World.Bytes.{Byte, resource_at}
use Rattle.vk_image_transfer.specs.Held.{Form, place_of}
use Rattle.vk_lag.specs.declared.late.Late.{Late}
use Rattle.vk_lag.specs.declared.late.Due.{Due}
use Rattle.vk_lag.specs.Lags.{Lags, resource_in, late_at, is_between, is_due, caught_up, Changes}
use Rattle.vk_availability.specs.Inner.CatchingUp.{caught_where, CatchesUp}

-- memory that has caught up with a byte has caught up with it
twice : (t u : Bool) (due : Due) (o : Option Late) → caught_where u due (caught_where t due o) ≡ caught_where (t || u) due o
twice false u due o = refl
twice true false due o = refl
twice true true due None = refl
twice true true due (Some l) = go (is_due due l) refl
  where
    go : (b : Bool) → is_due due l ≡ b → caught_up due (if b then None else Some l) ≡ (if b then None else Some l)
    go true e = refl
    go false e = ap (λ (b : Bool). if b then None else Some l) e

module _ (id : ℕ) (form : Form) (due : Due) where
  -- a test on the bytes that the resource has
  abbrev pub Agree : (t u : Byte → Bool) → Type 0
  Agree t u = (c : Byte) (k : ℕ) → resource_at c ≡ id → place_of form c ≡ Some k → u c ≡ t c

  pub none_yet : (t : Byte → Bool) (lags : Lags) → Agree (λ c. false) t → CatchesUp id form t due lags lags
  none_yet t lags none = record {
    bytes = λ c k its place. ap (λ (b : Bool). caught_where b due (late_at lags id k)) (sym (none c k its place));
    others = λ other differs. refl;
    room = λ other. refl;
  }

  pub one_more : (t u v : Byte → Bool) (old mid new : Lags) → CatchesUp id form t due old mid → CatchesUp id form u due mid new → Agree (λ c. t c || u c) v → CatchesUp id form v due old new
  one_more t u v old mid new first second agree = record {
    bytes = λ c k its place.
        second.bytes c k its place ∙ ap (λ (o : Option Late). caught_where (u c) due o) (first.bytes c k its place) ∙ twice (t c) (u c) due (late_at old id k)
        ∙ ap (λ (b : Bool). caught_where b due (late_at old id k)) (sym (agree c k its place));
    others = λ other differs. second.others other differs ∙ first.others other differs;
    room = λ other. second.room other ∙ first.room other;
  }

  pub same_test : (t u : Byte → Bool) (old new : Lags) → CatchesUp id form t due old new → Agree t u → CatchesUp id form u due old new
  same_test t u old new catches agree = record {
    bytes = λ c k its place. catches.bytes c k its place ∙ ap (λ (b : Bool). caught_where b due (late_at old id k)) (sym (agree c k its place));
    others = catches.others;
    room = catches.room;
  }

  pub of_range : (low high : ℕ) (t : Byte → Bool) (old new : Lags) → Changes id (λ k b. if is_between low high k then caught_up due b else b) old new
      → ((c : Byte) (k : ℕ) → resource_at c ≡ id → place_of form c ≡ Some k → t c ≡ is_between low high k) → CatchesUp id form t due old new
  of_range low high t old new changes agree = record {
    bytes = λ c k its place. changes.bytes k ∙ ap (λ (b : Bool). caught_where b due (late_at old id k)) (sym (agree c k its place));
    others = changes.others;
    room = λ other. elim (cases_eq other id) [
      | inl same ↦ subst (λ (n : ℕ). length (resource_in new n) ≡ length (resource_in old n)) (sym same) changes.room
      | inr differs ↦ ap (λ (l : List (Option Late)). length l) (changes.others other differs)
    ];
  }
