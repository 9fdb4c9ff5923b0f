-- What a search in a part of a list finds.
use Rattle.std.proofs.Common.{◌≡◌, ◌<◌, ◌≤◌, ℕ, List, [], ◌∷◌, slice_get, Bool, true, false, not, refl, subst, sym, ◌∙◌, Option, Some, None, ⊎_elim, arith}
use Rattle.std.specs.Prelude.{IfSome, IfNone, is_some, is_none}
use Rattle.std.specs.Option.{IsSomeAnd}
use Rattle.std.proofs.lemmas.Bool.{cases_lt}
use Rattle.vk_ranges.specs.Overlaps.{Piece, AreRunsOf}
use Rattle.vk_touches.specs.declared.accesses.ResourceAccess.{ResourceAccess}
use Rattle.vk_touches.specs.declared.touches.LastTouches.{LastTouches}
use Rattle.vk_touches.specs.declared.touches.Spot.{Spot}
use Rattle.vk_touches.specs.Conflicts.{FoundIn, FoundAt, SomeBetween, IsRefused, SaysSeen, MissesFlush}

module _ {A : Type 0} (is : Bool → A → Type 0) (xs : List A) where
  there : (r : Bool) (gives : A → Type 0) → ((a : A) → gives a → is r a) → (o : Option A) → IsSomeAnd o gives → (a : A) × (o ≡ Some a) × is r a
  there r gives only None h = absurd h
  there r gives only (Some a) h = (a, refl, only a h)

  by_result : (passes fails : A → Type 0) → ((a : A) → passes a → is true a) → ((a : A) → fails a → is false a) → (low high : ℕ) (found : Option ℕ) → IfSome found (λ k. (low ≤ k) × (k < high)) → IfSome found (λ k. IsSomeAnd (slice_get xs k) passes)
      → IfNone found ((k : ℕ) → low ≤ k → k < high → IsSomeAnd (slice_get xs k) fails) → FoundIn is (is_some found) xs low high
  by_result passes fails yes_is no_is low high (Some k) within found none = let t = there true passes yes_is (slice_get xs k) found in (k, within.0, within.1, t.0, t.1, t.2)
  by_result passes fails yes_is no_is low high None within found none = λ k from to. there false fails no_is (slice_get xs k) (none k from to)

  pub found_by : {passes fails : A → Type 0} (low high o end : ℕ) → low ≡ o → high ≡ end → (found : Option ℕ) → IfSome found (λ k. (low ≤ k) × (k < high)) → IfSome found (λ k. IsSomeAnd (slice_get xs k) passes)
      → IfNone found ((k : ℕ) → low ≤ k → k < high → IsSomeAnd (slice_get xs k) fails) → (r : Bool) → r ≡ is_some found → ((a : A) → passes a → is true a) → ((a : A) → fails a → is false a) → FoundIn is r xs o end
  found_by {passes} {fails} low high o end low_is high_is found within at none r is_r yes_is no_is =
      subst (λ (b : Bool). FoundIn is b xs o end) (sym is_r) (subst (λ (h : ℕ). FoundIn is (is_some found) xs o h) high_is (subst (λ (l : ℕ). FoundIn is (is_some found) xs l high) low_is (by_result passes fails yes_is no_is low high found within at none)))

-- ---- of some bytes in a row

module _ {A : Type 0} (says : ℕ → Bool → A → Type 0) where
  pub refused_between : (last : Option A) (a : A) → last ≡ Some a → (low high : ℕ) (r : Bool) → SomeBetween (λ k t. says k (not t) a) r low high → SomeBetween (λ k t. IsRefused (says k) t last) r low high
  refused_between last a is low high true h = (h.0, h.1, h.2, record { none = λ e. absurd cc; some = λ b e. subst (λ (x : A). says h.0 false x) (inside a b (sym is ∙ e)) h.3 }) where
    inside : (a b : A) → Some a ≡ Some b → a ≡ b
    inside a b e = cc
  refused_between last a is low high false h = λ k from to. record { none = λ e. absurd cc; some = λ b e. subst (λ (x : A). says k true x) (inside a b (sym is ∙ e)) (h k from to) } where
    inside : (a b : A) → Some a ≡ Some b → a ≡ b
    inside a b e = cc

-- where memory is cached, the first flush stands for the last host write
module _ (x : ResourceAccess) (t : LastTouches) (written : is_none t.host_write ≡ false) (f : Spot) (flushed : t.flush ≡ Some f) where
  by_flush : (k : ℕ) (r : Bool) → SaysSeen x k (not r) f → MissesFlush x k r t
  by_flush k r h = record {
    none = λ e. absurd (let bad : true ≡ false = rw e at written in cc);
    unflushed = λ w e none. absurd (let bad : Some f ≡ None = sym flushed ∙ none in cc);
    flushed = λ w g e is. subst (λ (y : Spot). SaysSeen x k (not r) y) (inside f g (sym flushed ∙ is)) h;
  } where
    inside : (a b : Spot) → Some a ≡ Some b → a ≡ b
    inside a b e = cc

  pub flush_between : (low high : ℕ) (r : Bool) → SomeBetween (λ k r. SaysSeen x k (not r) f) r low high → SomeBetween (λ k r. MissesFlush x k r t) r low high
  flush_between low high true h = (h.0, h.1, h.2, by_flush h.0 true h.3)
  flush_between low high false h = λ k from to. by_flush k false (h k from to)

-- ---- run by run

module _ {T : Type 0} (is : ℕ → Bool → T → Type 0) (values : List T) (low high : ℕ) where
  -- the runs before the rest have no such index
  pub record IsSearched (rest : List (Piece T)) : Type 0 where
    pub cursor : ℕ
    pub above : low ≤ cursor
    pub runs : AreRunsOf values cursor high rest
    pub none : (k : ℕ) → low ≤ k → k < cursor → (a : T) × (slice_get values k ≡ Some a) × is k false a

  pub search_next : (piece : Piece T) (rest : List (Piece T)) → IsSearched (piece ∷ rest) → SomeBetween (λ k t. is k t piece.value) false piece.start piece.end → IsSearched rest
  search_next piece rest so_far fails =
      let above = so_far.above in
      let some = so_far.runs.1 in
      let start : piece.start ≡ so_far.cursor = so_far.runs.0 in
      record {
        cursor = piece.end;
        above = omega arith;
        runs = so_far.runs.5;
        none = λ k from to. ⊎_elim (λ before. so_far.none k from before) (λ here. (piece.value, so_far.runs.3 k (omega arith) to, fails k (omega arith) to)) (cases_lt k so_far.cursor);
      }

  pub search_found : (piece : Piece T) (rest : List (Piece T)) → IsSearched (piece ∷ rest) → SomeBetween (λ k t. is k t piece.value) true piece.start piece.end → FoundAt is true values low high
  search_found piece rest so_far passes =
      let above = so_far.above in
      let within = so_far.runs.2 in
      let start : piece.start ≡ so_far.cursor = so_far.runs.0 in
      let from = passes.1 in
      let to = passes.2 in
      (passes.0, omega arith, omega arith, piece.value, so_far.runs.3 passes.0 from to, passes.3)

  pub search_end : IsSearched [] → FoundAt is false values low high
  search_end so_far = λ k from to. let end : so_far.cursor ≡ high = so_far.runs in so_far.none k from (omega arith)

  pub search_start : (runs : List (Piece T)) → AreRunsOf values low high runs → IsSearched runs
  search_start runs are = record { cursor = low; above = omega arith; runs = are; none = λ k from to. absurd (omega (arith, from, to)) }

  -- the run that comes next lies in the part
  pub search_within : (piece : Piece T) (rest : List (Piece T)) → IsSearched (piece ∷ rest) → (piece.start ≤ piece.end) × (piece.end ≤ high)
  search_within piece rest so_far =
      let start : piece.start ≡ so_far.cursor = so_far.runs.0 in
      let some = so_far.runs.1 in
      (omega (arith, start, some), so_far.runs.2)

-- ---- of what is found in a list, what is found in another

-- the runs of a list that come before the ones that are left have no such index, and what is found in it is found in the other
pub record AreSearched {T S : Type 0} (is : ℕ → Bool → T → Type 0) (of : ℕ → Bool → S → Type 0) (all : List S) (low high : ℕ) (left : List (Piece T)) : Type 0 where
  pub values : List T
  pub found : (r : Bool) → FoundAt is r values low high → FoundAt of r all low high
  pub searched : IsSearched is values low high left

module _ {T S : Type 0} {is : ℕ → Bool → T → Type 0} {of : ℕ → Bool → S → Type 0} {all : List S} {low high : ℕ} where
  pub walk_start : (values : List T) → ((r : Bool) → FoundAt is r values low high → FoundAt of r all low high) → (left : List (Piece T)) → AreRunsOf values low high left → AreSearched is of all low high left
  walk_start values found left runs = record { values = values; found = found; searched = search_start is values low high left runs }

  module _ {left : List (Piece T)} (so_far : AreSearched is of all low high left) where
    pub walk_end : left ≡ [] → FoundAt of false all low high
    walk_end none = so_far.found false (search_end is so_far.values low high (subst (IsSearched is so_far.values low high) none so_far.searched))

    module _ {piece : Piece T} {rest : List (Piece T)} (next : left ≡ piece ∷ rest) where
      first : IsSearched is so_far.values low high (piece ∷ rest)
      first = subst (IsSearched is so_far.values low high) next so_far.searched

      pub walk_within : (piece.start ≤ piece.end) × (piece.end ≤ high)
      walk_within = search_within is so_far.values low high piece rest first

      pub walk_next : (r : Bool) → SomeBetween (λ k r. is k r piece.value) r piece.start piece.end → r ≡ false → AreSearched is of all low high rest
      walk_next r h fails = record {
        values = so_far.values;
        found = so_far.found;
        searched = search_next is so_far.values low high piece rest first (subst (λ (b : Bool). SomeBetween (λ k r. is k r piece.value) b piece.start piece.end) fails h);
      }

      pub walk_found : (r : Bool) → SomeBetween (λ k r. is k r piece.value) r piece.start piece.end → r ≡ true → FoundAt of true all low high
      walk_found r h passes = so_far.found true (search_found is so_far.values low high piece rest first (subst (λ (b : Bool). SomeBetween (λ k r. is k r piece.value) b piece.start piece.end) passes h))

-- ---- one of two things

-- where the first isn't found
pub found_either : {A : Type 0} (is also either : ℕ → Bool → A → Type 0) → ((k : ℕ) (a : A) → also k true a → either k true a) → ((k : ℕ) (a : A) → is k false a → also k false a → either k false a) → (xs : List A) (low high : ℕ) (s : Bool) → s ≡ false
    → FoundAt is s xs low high → (r : Bool) → FoundAt also r xs low high → FoundAt either r xs low high
found_either {A} is also either one neither xs low high s fails f r g = go (subst (λ (b : Bool). FoundAt is b xs low high) fails f) r g where
  inside : (a b : A) → Some a ≡ Some b → a ≡ b
  inside a b e = cc

  go : FoundAt is false xs low high → (r : Bool) → FoundAt also r xs low high → FoundAt either r xs low high
  go f true g = (g.0, g.1, g.2, g.3, g.4, one g.0 g.3 g.5)
  go f false g = λ k from to.
      let m = f k from to in
      let n = g k from to in
      (m.0, m.1, neither k m.0 m.2 (subst (also k false) (inside n.0 m.0 (sym n.1 ∙ m.1)) n.2))
