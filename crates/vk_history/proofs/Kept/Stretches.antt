-- Stretches that the regions of a copy find in their source.
use Rattle.std.proofs.Common.{◌≡◌, ◌<◌, ◌≤◌, ◌+◌, ◌-◌, ℕ, List, [], ◌∷◌, ◌++◌, length, slice_get, take, get_or, cond, subst, zero, suc, Bool, true, false, ◌&&◌, refl, ap, sym, ◌∙◌, arith, Option, Some, None, ⊎_elim}
use Rattle.std.specs.Prelude.{Contains, if◌then◌else◌, nat_le, nat_lt, unwrap_or, option_and_then}
use Rattle.std.specs.Option.{option_map, option_or}
use Rattle.std.specs.List.{find}
use Rattle.std.proofs.lemmas.Bool.{cases_lt, lt-ltb, le-leb, lt-leb, le-ltb, and_parts, leb-true, ltb-true}
use Rattle.std.proofs.Math.Bool.{and-false}
use Rattle.std.proofs.lemmas.List.{take_more}
use Rattle.std.proofs.lemmas.List.Folds.{find-append}
use Rattle.std.proofs.lemmas.Option.{slice_get-get_or}
use Rattle.vk_ranges.specs.Overlaps.{Piece, AreRunsOf}
use Rattle.vk_model.specs.declared.command.BufferCopy.{BufferCopy}
use Rattle.vk_model.specs.Basics.{within}
use Rattle.vk_model.proofs.Lists.Members.{found, place_has, none_in, contains-cons, contains-head, contains-tail}
use Rattle.vk_history.specs.declared.stretches.Stretch.{Stretch}
use Rattle.vk_history.specs.Contents.{stretch_at, has_place, copied_at, ReadWithin}

-- ---- stretches

option_or-map : {A B : Type 0} (f : A → B) (x y : Option A) → option_map f (option_or x y) ≡ option_or (option_map f x) (option_map f y)
option_or-map f None y = refl
option_or-map f (Some a) y = refl

-- the first of two lists that has a byte decides
pub stretch_at-append : (ss ts : List Stretch) (k : ℕ) → stretch_at (ss ++ ts) k ≡ option_or (stretch_at ss k) (stretch_at ts k)
stretch_at-append ss ts k = ap (option_map (λ (s : Stretch). s.is_defined)) (find-append (has_place k) ss ts) ∙ option_or-map (λ (s : Stretch). s.is_defined) (find (has_place k) ss) (find (has_place k) ts)

option_or-assoc : {A : Type 0} (x y z : Option A) → option_or (option_or x y) z ≡ option_or x (option_or y z)
option_or-assoc None y z = refl
option_or-assoc (Some a) y z = refl

-- one more stretch
pub stretch_at-last : (ss : List Stretch) (s : Stretch) (k : ℕ) → stretch_at (ss ++ s ∷ []) k ≡ option_or (stretch_at ss k) (if has_place k s then Some s.is_defined else None)
stretch_at-last ss s k = stretch_at-append ss (s ∷ []) k ∙ ap (option_or (stretch_at ss k)) (go (has_place k s)) where
  go : (b : Bool) → option_map (λ (s : Stretch). s.is_defined) (cond b (Some s) None) ≡ (if b then Some s.is_defined else None)
  go true = refl
  go false = refl

-- what a region finds from a byte of its source on, below another
abbrev pub found_below : List Bool → BufferCopy → ℕ → ℕ → Option Bool
found_below xs g n k = if within g.destination_offset n k then slice_get xs (g.source_offset + (k - g.destination_offset)) else None

-- the runs of the source so far have been added
pub record ArePushed (now old : List Stretch) (xs : List Bool) (g : BufferCopy) (low high : ℕ) (left : List (Piece Bool)) : Type 0 where
  pub at : ℕ
  pub above : low ≤ at
  pub below : at ≤ high
  pub runs : AreRunsOf xs at high left
  pub added : low ≡ g.source_offset → (k : ℕ) → stretch_at now k ≡ option_or (stretch_at old k) (found_below xs g (at - low) k)

option_or-none : {A : Type 0} (x : Option A) → option_or x None ≡ x
option_or-none None = refl
option_or-none (Some a) = refl

pub push_next : (now old : List Stretch) (xs : List Bool) (g : BufferCopy) (low high : ℕ) (piece : Piece Bool) (left : List (Piece Bool)) → ArePushed now old xs g low high (piece ∷ left)
    → ArePushed (now ++ record { destination = g.destination_offset; start = piece.start - low; end = piece.end - low; is_defined = piece.value } ∷ []) old xs g low high left
push_next now old xs g low high piece left h =
    let starts = h.runs.0 in
    let some = h.runs.1 in
    let fits = h.runs.2 in
    let above = h.above in
    record {
      at = piece.end;
      above = omega (arith, above, some);
      below = fits;
      runs = h.runs.5;
      added = λ e k. stretch_at-last now _ k ∙ ap (λ (o : Option Bool). option_or o (if here k then Some piece.value else None)) (h.added e k) ∙ option_or-assoc (stretch_at old k) _ _ ∙ ap (option_or (stretch_at old k)) (one e k);
    }
  where
    here : ℕ → Bool
    here k = nat_le (g.destination_offset + (piece.start - low)) k && nat_lt k (g.destination_offset + (piece.end - low))

    value : low ≡ g.source_offset → (k : ℕ) → g.destination_offset + (h.at - low) ≤ k → k < g.destination_offset + (piece.end - low) → slice_get xs (g.source_offset + (k - g.destination_offset)) ≡ Some piece.value
    value e k past lt =
        let starts : piece.start ≡ h.at = h.runs.0 in
        let some : h.at < piece.end = h.runs.1 in
        let above : low ≤ h.at = h.above in
        let from : piece.start ≤ g.source_offset + (k - g.destination_offset) = omega (arith, e, past, starts, above) in
        let to : g.source_offset + (k - g.destination_offset) < piece.end = omega (arith, e, past, lt, some, above) in
        h.runs.3 (g.source_offset + (k - g.destination_offset)) from to

    one : low ≡ g.source_offset → (k : ℕ) → option_or (found_below xs g (h.at - low) k) (if here k then Some piece.value else None) ≡ found_below xs g (piece.end - low) k
    one e k =
        let starts : piece.start ≡ h.at = h.runs.0 in
        let some : h.at < piece.end = h.runs.1 in
        let above : low ≤ h.at = h.above in
        ⊎_elim
        (λ lt. rw (lt-leb g.destination_offset k lt, lt-leb (g.destination_offset + (piece.start - low)) k (omega (arith, lt))) refl)
        (λ ge. ⊎_elim
        (λ lt. rw (le-leb g.destination_offset k ge, lt-ltb k (g.destination_offset + (h.at - low)) lt, lt-ltb k (g.destination_offset + (piece.end - low)) (omega (arith, lt, some, above)), lt-leb (g.destination_offset + (piece.start - low)) k (omega (arith, lt, starts, above))) (option_or-none _))
        (λ past. ⊎_elim
        (λ lt. let from : g.destination_offset + (piece.start - low) ≤ k = omega (arith, past, starts, above) in rw (le-leb g.destination_offset k ge, le-ltb k (g.destination_offset + (h.at - low)) past, le-leb (g.destination_offset + (piece.start - low)) k from, lt-ltb k (g.destination_offset + (piece.end - low)) lt)
        (sym (value e k past lt)))
        (λ out. rw (le-leb g.destination_offset k ge, le-ltb k (g.destination_offset + (h.at - low)) past, le-ltb k (g.destination_offset + (piece.end - low)) out, and-false (nat_le (g.destination_offset + (piece.start - low)) k)) refl)
        (cases_lt k (g.destination_offset + (piece.end - low))))
        (cases_lt k (g.destination_offset + (h.at - low))))
        (cases_lt k g.destination_offset)

-- ---- the stretches of all regions

-- one more region
pub copied_more : (xs : List Bool) (gs : List BufferCopy) (g : BufferCopy) (k : ℕ) → ReadWithin gs (length xs) → copied_at xs (gs ++ g ∷ []) k ≡ option_or (copied_at xs gs k) (copied_at xs (g ∷ []) k)
copied_more xs gs g k fits = ap (option_and_then (λ g. slice_get xs (g.source_offset + (k - g.destination_offset)))) (find-append has gs (g ∷ [])) ∙ go (find has gs) refl where
  has : BufferCopy → Bool
  has g = within g.destination_offset g.size k

  value : BufferCopy → Option Bool
  value g = slice_get xs (g.source_offset + (k - g.destination_offset))

  is_there : (h : BufferCopy) → Contains gs h → has h ≡ true → (v : Bool) × (value h ≡ Some v)
  is_there h c e =
      let parts = and_parts (nat_le h.destination_offset k) (nat_lt k (h.destination_offset + h.size)) e in
      let low = leb-true h.destination_offset k parts.0 in
      let high = ltb-true k (h.destination_offset + h.size) parts.1 in
      let room = fits h c in
      (_, slice_get-get_or xs (h.source_offset + (k - h.destination_offset)) false (omega (arith, low, high, room)))

  go : (o : Option BufferCopy) → find has gs ≡ o → option_and_then value (option_or o (find has (g ∷ []))) ≡ option_or (option_and_then value o) (option_and_then value (find has (g ∷ [])))
  go None e = refl
  go (Some h) e = let member = found has gs h e in let v = is_there h member.0 member.1 in rw (v.1) refl

-- ---- regions one after another

taken_from : (i : ℕ) (gs : List BufferCopy) (g : BufferCopy) → Contains (take i gs) g → Contains gs g
taken_from zero gs g c = absurd (none_in g c)
taken_from (suc i) [] g c = absurd (none_in g c)
taken_from (suc i) (h ∷ gs) g c = ⊎_elim (λ e. subst (λ (x : BufferCopy). Contains (h ∷ gs) x) e (contains-head h gs)) (λ later. contains-tail h gs g (taken_from i gs g later)) (contains-cons h (take i gs) g c)

-- what the first regions find, and the next one
pub copy_next_region : (xs : List Bool) (gs : List BufferCopy) (i : ℕ) (d : BufferCopy) → i < length gs → ReadWithin gs (length xs) → (mid new : List Stretch)
    → ((k : ℕ) → stretch_at mid k ≡ copied_at xs (take i gs) k)
    → ((get_or gs i d).source_offset + (get_or gs i d).size ≤ length xs → (k : ℕ) → stretch_at new k ≡ option_or (stretch_at mid k) (copied_at xs (get_or gs i d ∷ []) k))
    → (k : ℕ) → stretch_at new k ≡ copied_at xs (take (i + 1) gs) k
copy_next_region xs gs i d lt fits mid new first next k =
    next (fits (get_or gs i d) (place_has gs i (get_or gs i d) (slice_get-get_or gs i d lt))) k ∙ ap (λ (o : Option Bool). option_or o (copied_at xs (get_or gs i d ∷ []) k)) (first k)
    ∙ sym (ap (λ (l : List BufferCopy). copied_at xs l k) (take_more gs i d lt) ∙ copied_more xs (take i gs) (get_or gs i d) k (λ g c. fits g (taken_from i gs g c)))

-- what the last of some stretches says, and then those before it
pub define_last : (ss : List Stretch) (s : Stretch) (all : List Stretch) → all ≡ ss ++ s ∷ [] → (k : ℕ) (mid new : Option Bool) → new ≡ option_map (unwrap_or (stretch_at (s ∷ []) k)) mid → option_map (unwrap_or (stretch_at ss k)) new ≡ option_map (unwrap_or (stretch_at all k)) mid
define_last ss s all e k mid new is =
    ap (option_map (unwrap_or (stretch_at ss k))) is ∙ go mid (stretch_at ss k) (stretch_at (s ∷ []) k) ∙ ap (λ (o : Option Bool). option_map (unwrap_or o) mid) (sym (ap (λ (l : List Stretch). stretch_at l k) e ∙ stretch_at-append ss (s ∷ []) k))
  where
    go : (m x y : Option Bool) → option_map (unwrap_or x) (option_map (unwrap_or y) m) ≡ option_map (unwrap_or (option_or x y)) m
    go None x y = refl
    go (Some b) None y = refl
    go (Some b) (Some c) y = refl
