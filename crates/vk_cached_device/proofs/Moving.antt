-- Memory catches up with what a pass moves, and late bytes of what has ended are forgotten.
use Rattle.std.proofs.Common.{◌≡◌, ◌∙◌, ℕ, ◌+◌, ◌<◌, List, [], ◌∷◌, ◌++◌, length, take, get_or, true, Option, Some, None, refl, sym, ap, subst, inl, inr}
use Rattle.std.specs.Prelude.{Contains, is_some, ◌==◌}
use Rattle.std.proofs.lemmas.Bool.{cases_eq, eq-eqb}
use Rattle.std.proofs.lemmas.List.{take_more}
use Rattle.std.proofs.lemmas.List.Elements.{Contains-append_cases, Contains-append_left, Contains-append_right}
use Rattle.vk_model.proofs.Lists.Members.{contains-head, none_in, only_one, member_passes}
use Rattle.vk_model.proofs.Lists.Truths.{clash}
use Rattle.vk_model.specs.declared.entry.Entry.{Entry}
use Rattle.vk_model.specs.Basics.{among}
use Rattle.vk_model.specs.Trace.Objects.{ended_by, resource_in}
use Rattle.vk_lag.specs.declared.late.Late.{Late}
use Rattle.vk_lag.specs.declared.late.Due.TheVariants as due
use Rattle.vk_lag.specs.Lags.{Lags, Changes, IsRoomed, caught_up, late_in, late_at, resource_in as late_bytes}
use Rattle.vk_device.specs.declared.device.Device.{Device}
use Rattle.vk_cached_device.specs.Applies.{moved_at}
use Rattle.vk_cached_device.specs.Inner.{CatchesUpMoving, Follows}

-- ---- lists

module _ (xs : List ℕ) (id : ℕ) where
  has_last : Contains (xs ++ id ∷ []) id
  has_last = Contains-append_right xs (id ∷ []) id (contains-head id [])

  before_last : (i : ℕ) → (i ≡ id → ⊥) → Contains (xs ++ id ∷ []) i → Contains xs i
  before_last i other there = elim (Contains-append_cases xs (id ∷ []) i there) [ inl seen ↦ seen | inr last ↦ absurd (other (sym (only_one id i last))) ]

  not_last : (i : ℕ) → (Contains (xs ++ id ∷ []) i → ⊥) → i ≡ id → ⊥
  not_last i away e = away (subst (λ (j : ℕ). Contains (xs ++ id ∷ []) j) (sym e) has_last)

  not_before : (i : ℕ) → (Contains (xs ++ id ∷ []) i → ⊥) → Contains xs i → ⊥
  not_before i away seen = away (Contains-append_left xs (id ∷ []) i seen)

-- ---- memory catches up

none_due : (o : Option Late) → caught_up due.All o ≡ None
none_due None = refl
none_due (Some l) = refl

pub none_caught : (l : Lags) → CatchesUpMoving [] l l
none_caught l = record { room = λ id. refl; moved = λ id k there. absurd (none_in id there); others = λ id away. refl }

pub more_caught : (ids : List ℕ) (k : ℕ) (old mid new : Lags) → k < length ids → CatchesUpMoving (take k ids) old mid → Changes (get_or ids k 0) (λ k byte. caught_up due.All byte) mid new → CatchesUpMoving (take (k + 1) ids) old new
more_caught ids k old mid new lt h c = subst (λ (l : List ℕ). CatchesUpMoving l old new) (sym (take_more ids k 0 lt)) (record {
  room = λ i. elim (cases_eq i id) [
    | inl e ↦ subst (λ (j : ℕ). length (late_bytes new j) ≡ length (late_bytes old j)) (sym e) (c.room ∙ h.room id)
    | inr other ↦ ap length (c.others i other) ∙ h.room i
  ];
  moved = λ i n there. elim (cases_eq i id) [
    | inl e ↦ subst (λ (j : ℕ). late_at new j n ≡ None) (sym e) (c.bytes n ∙ none_due (late_at mid id n))
    | inr other ↦ ap (λ (bytes : List (Option Late)). late_in bytes n) (c.others i other) ∙ h.moved i n (before_last (take k ids) id i other there)
  ];
  others = λ i away. c.others i (not_last (take k ids) id i away) ∙ h.others i (not_before (take k ids) id i away);
})
  where
    id : ℕ
    id = get_or ids k 0

-- ---- late bytes are forgotten

-- of all resources but some the same bytes are late
abbrev pub StayBut : List ℕ → Lags → Lags → Type 0
StayBut ids old new = (id : ℕ) → (Contains ids id → ⊥) → late_bytes new id ≡ late_bytes old id

pub stay_more : (ids : List ℕ) (k : ℕ) (old mid new : Lags) → k < length ids → StayBut (take k ids) old mid → IsRoomed (get_or ids k 0) 0 mid new → StayBut (take (k + 1) ids) old new
stay_more ids k old mid new lt h r = subst (λ (l : List ℕ). StayBut l old new) (sym (take_more ids k 0 lt)) (λ i away. r.others i (not_last (take k ids) (get_or ids k 0) i away) ∙ h i (not_before (take k ids) (get_or ids k 0) i away))

has_among : (id : ℕ) (ids : List ℕ) → Contains ids id → among id ids ≡ true
has_among id ids has = member_passes (λ j. id == j) ids id has (eq-eqb id id refl)

-- ---- an entry is followed

module _ (d : Device) (old new : Lags) where
  pub follows_ended : (x : Entry) (ids : List ℕ) → ended_by x ≡ ids → resource_in x ≡ None → moved_at x d.passes ≡ [] → StayBut ids old new → Follows x d old new
  follows_ended x ids ends makes moves stay = record {
    made = λ id p some by here. clash some (ap is_some makes);
    moved = λ id k there. absurd (none_in id (subst (λ (l : List ℕ). Contains l id) moves there));
    others = λ id unmade alive still. stay id (λ there. clash (has_among id ids there) (ap (λ (l : List ℕ). among id l) (sym ends) ∙ alive));
  }

  pub follows_moved : (x : Entry) (moving : List ℕ) → moved_at x d.passes ≡ moving → resource_in x ≡ None → CatchesUpMoving moving old new → Follows x d old new
  follows_moved x moving moves makes h = record {
    made = λ id p some by here. clash some (ap is_some makes);
    moved = λ id k there. (h.moved id k (subst (λ (l : List ℕ). Contains l id) moves there), h.room id);
    others = λ id unmade alive still. h.others id (λ there. still (subst (λ (l : List ℕ). Contains l id) (sym moves) there));
  }
