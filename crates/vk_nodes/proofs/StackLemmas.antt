-- Lemmas on the stack of free slots, and on slots of which not all were used.
use Rattle.std.proofs.Common.{◌≡◌, ◌≢◌, ◌⊎◌, inl, inr, ℕ, zero, suc, ◌+◌, ◌-◌, ◌<◌, ◌≤◌, List, [], ◌∷◌, ◌++◌, length, get_or, set, take, replicate, Option, None, Some, IsTrue, is_some, refl, sym, ap, subst, ◌∙◌, arith, get_or-set_other, get_or-set_same, append_assoc, length-append}
use Rattle.std.proofs.lemmas.Bool.{cases_lt}
use Rattle.std.proofs.lemmas.List.{length-set, length-take-le, length-replicate, take-append-le, replicate-append-replicate}
use Rattle.vk_nodes.specs.declared.node.Node.{Node}
use Rattle.vk_nodes.specs.Slots.{IsHeld, free_count}
use Rattle.vk_nodes.specs.Inner.FreeStack.{IsFreeStack}
use Rattle.vk_nodes.specs.Inner.IsFilled.{slots_seen}
use Rattle.vk_nodes.proofs.SlotLemmas.{free_count-set_some, free_count-set_none, free_count-set_held, free_count-append, free_count-replicate, free_count-le, not-held, held-below}

none-held : (o : Option Node) → o ≡ None → IsTrue (is_some o) → ⊥
none-held o e h = let P : Option Node → Type 0 = λ p. IsTrue (is_some p) in not-held (subst P e h)

get_or-left : {A : Type 0} (xs ys : List A) (k : ℕ) (d : A) → k < length xs → get_or (xs ++ ys) k d ≡ get_or xs k d
get_or-left [] ys k d lt = absurd (omega (arith, lt))
get_or-left (x ∷ xs) ys zero d lt = refl
get_or-left (x ∷ xs) ys (suc k) d lt = get_or-left xs ys k d (omega (arith, lt))

-- a held slot is no free one
held-apart : (slots : List (Option Node)) (i k : ℕ) → get_or slots i None ≡ None → IsHeld slots k → i ≢ k
held-apart slots i k e h same = none-held (get_or slots k None) (ap (λ (j : ℕ). get_or slots j None) (sym same) ∙ e) h

below : (i n : ℕ) → i < suc n → (i < n) ⊎ (i ≡ n)
below i n lt = elim (cases_lt i n) [ inl l ↦ inl l | inr g ↦ inr (omega (arith, g, lt)) ]

module _ (names : List ℕ) (free : ℕ) (slots : List (Option Node)) where
  -- the name on top is taken
  pub pops : (n : Node) → IsFreeStack names (suc free) slots → IsFreeStack names free (set slots (get_or names free 0) (Some n))
  pops n s =
      let k : ℕ = get_or names free 0 in
      let last : free < suc free = omega arith in
      let counted : suc (free_count (set slots k (Some n))) ≡ free_count slots = free_count-set_some slots k n (s.inside free last) (s.is_free free last) in
      record {
        count = omega (arith, counted, s.count);
        inside = λ i lt. let more : i < suc free = omega (arith, lt) in omega (arith, s.inside i more, length-set slots k (Some n));
        is_free = λ i lt. let more : i < suc free = omega (arith, lt) in get_or-set_other slots k (get_or names i 0) (Some n) None (s.apart i free lt last) ∙ s.is_free i more;
        apart = λ i j lt below_free. s.apart i j lt (omega (arith, below_free));
      }

  -- a held slot is freed, and its name is put on top
  pub pushes : (k : ℕ) → IsHeld slots k → free < length names → IsFreeStack names free slots → IsFreeStack (set names free k) (suc free) (set slots k None)
  pushes k h room s =
      let counted : free_count (set slots k None) ≡ suc (free_count slots) = free_count-set_none slots k h in
      let size : length (set slots k None) ≡ length slots = length-set slots k None in
      let kept : (i : ℕ) → i < free → get_or (set names free k) i 0 ≡ get_or names i 0 = λ i lt. get_or-set_other names free i k 0 (omega (arith, lt)) in
      let top : get_or (set names free k) free 0 ≡ k = get_or-set_same names free k 0 room in
      let no_name : (i : ℕ) → i < free → get_or names i 0 ≢ k = λ i lt. held-apart slots (get_or names i 0) k (s.is_free i lt) h in
      record {
        count = omega (arith, counted, s.count);
        inside = λ i lt. elim (below i free lt) [
          | inl l ↦ omega (arith, kept i l, s.inside i l, size)
          | inr e ↦ omega (arith, top, ap (λ (j : ℕ). get_or (set names free k) j 0) e, held-below slots k h, size)
        ];
        is_free = λ i lt. elim (below i free lt) [
          | inl l ↦ ap (λ (j : ℕ). get_or (set slots k None) j None) (kept i l) ∙ get_or-set_other slots k (get_or names i 0) None None (no_name i l) ∙ s.is_free i l
          | inr e ↦ ap (λ (j : ℕ). get_or (set slots k None) j None) (ap (λ (j : ℕ). get_or (set names free k) j 0) e ∙ top) ∙ get_or-set_same slots k None None (held-below slots k h)
        ];
        apart = λ i j lt below_free same. elim (below j free below_free) [
          | inl l ↦ let m : i < free = omega (arith, lt, l) in s.apart i j lt l (sym (kept i m) ∙ same ∙ kept j l)
          | inr e ↦ let m : i < free = omega (arith, lt, e) in no_name i m (sym (kept i m) ∙ same ∙ ap (λ (n : ℕ). get_or (set names free k) n 0) e ∙ top)
        ];
      }

  -- a node is put in the place of another
  pub keeps : (k : ℕ) (n : Node) → IsHeld slots k → IsFreeStack names free slots → IsFreeStack names free (set slots k (Some n))
  keeps k n h s =
      let size : length (set slots k (Some n)) ≡ length slots = length-set slots k (Some n) in
      record {
        count = free_count-set_held slots k n h ∙ s.count;
        inside = λ i lt. omega (arith, s.inside i lt, size);
        is_free = λ i lt. get_or-set_other slots k (get_or names i 0) (Some n) None (held-apart slots (get_or names i 0) k (s.is_free i lt) h) ∙ s.is_free i lt;
        apart = s.apart;
      }

  -- a slot more is used, and held
  pub grows : (n : Node) → IsFreeStack names free slots → IsFreeStack names free (slots ++ Some n ∷ [])
  grows n s =
      let more : length (slots ++ Some n ∷ []) ≡ length slots + 1 = length-append slots (Some n ∷ []) in
      let counted : free_count (slots ++ Some n ∷ []) ≡ free_count slots + 0 = free_count-append slots (Some n ∷ []) in
      record {
        count = omega (arith, counted, s.count);
        inside = λ i lt. omega (arith, s.inside i lt, more);
        is_free = λ i lt. get_or-left slots (Some n ∷ []) (get_or names i 0) None (s.inside i lt) ∙ s.is_free i lt;
        apart = s.apart;
      }

  -- the names stand in a longer list
  pub lengthens : (more : List ℕ) → length slots ≤ length names → IsFreeStack names free slots → IsFreeStack (names ++ more) free slots
  lengthens more room s =
      let kept : (i : ℕ) → i < free → get_or (names ++ more) i 0 ≡ get_or names i 0 = λ i lt. get_or-left names more i 0 (omega (arith, lt, s.count, free_count-le slots, room)) in
      record {
        count = s.count;
        inside = λ i lt. omega (arith, kept i lt, s.inside i lt);
        is_free = λ i lt. ap (λ (j : ℕ). get_or slots j None) (kept i lt) ∙ s.is_free i lt;
        apart = λ i j lt l same. let m : i < free = omega (arith, lt, l) in s.apart i j lt l (sym (kept i m) ∙ same ∙ kept j l);
      }

pub moved : {names names' : List ℕ} {free free' : ℕ} {slots slots' : List (Option Node)} → names ≡ names' → free ≡ free' → slots ≡ slots' → IsFreeStack names free slots → IsFreeStack names' free' slots'
moved {names' = names'} {free = free} {free' = free'} {slots = slots} e e' e'' s =
    subst (λ (xs : List (Option Node)). IsFreeStack names' free' xs) e'' (subst (λ (n : ℕ). IsFreeStack names' n slots) e' (subst (λ (ns : List ℕ). IsFreeStack ns free slots) e s))

get_or-none : (m k : ℕ) → get_or (replicate {A = Option Node} m None) k None ≡ None
get_or-none zero k = refl
get_or-none (suc m) zero = refl
get_or-none (suc m) (suc k) = get_or-none m k

held-used : (xs : List (Option Node)) (m k : ℕ) → IsHeld (xs ++ replicate m None) k → IsHeld xs k
held-used [] m k h = absurd (none-held (get_or (replicate m None) k None) (get_or-none m k) h)
held-used (x ∷ xs) m zero h = h
held-used (x ∷ xs) m (suc k) h = held-used xs m k h

unused-free : (xs : List (Option Node)) (m : ℕ) → get_or (xs ++ replicate m None) (length xs) None ≡ None
unused-free [] m = get_or-none m 0
unused-free (x ∷ xs) m = unused-free xs m

get_or-seen : (used : ℕ) (nodes rest : List (Option Node)) (k : ℕ) → k < used → used ≤ length nodes → get_or (take used nodes ++ rest) k None ≡ get_or nodes k None
get_or-seen zero nodes rest k lt le = absurd (omega (arith, lt))
get_or-seen (suc used) [] rest k lt le = absurd (omega (arith, le))
get_or-seen (suc used) (x ∷ nodes) rest zero lt le = refl
get_or-seen (suc used) (x ∷ nodes) rest (suc k) lt le = get_or-seen used nodes rest k (omega (arith, lt)) (omega (arith, le))

pub get_or-taken : (used : ℕ) (nodes : List (Option Node)) (k : ℕ) → k < used → used ≤ length nodes → get_or (take used nodes) k None ≡ get_or nodes k None
get_or-taken zero nodes k lt le = absurd (omega (arith, lt))
get_or-taken (suc used) [] k lt le = absurd (omega (arith, le))
get_or-taken (suc used) (x ∷ nodes) zero lt le = refl
get_or-taken (suc used) (x ∷ nodes) (suc k) lt le = get_or-taken used nodes k (omega (arith, lt)) (omega (arith, le))

pub take-set : (used : ℕ) (nodes : List (Option Node)) (k : ℕ) (v : Option Node) → k < used → take used (set nodes k v) ≡ set (take used nodes) k v
take-set zero nodes k v lt = absurd (omega (arith, lt))
take-set (suc used) [] k v lt = refl
take-set (suc used) (x ∷ nodes) zero v lt = refl
take-set (suc used) (x ∷ nodes) (suc k) v lt = ap (λ l. x ∷ l) (take-set used nodes k v (omega (arith, lt)))

set-left : (xs ys : List (Option Node)) (k : ℕ) (v : Option Node) → k < length xs → set (xs ++ ys) k v ≡ set xs k v ++ ys
set-left [] ys k v lt = absurd (omega (arith, lt))
set-left (x ∷ xs) ys zero v lt = refl
set-left (x ∷ xs) ys (suc k) v lt = ap (λ l. x ∷ l) (set-left xs ys k v (omega (arith, lt)))

set-seam : (xs ys : List (Option Node)) (u v : Option Node) → set (xs ++ u ∷ ys) (length xs) v ≡ xs ++ v ∷ ys
set-seam [] ys u v = refl
set-seam (x ∷ xs) ys u v = ap (λ l. x ∷ l) (set-seam xs ys u v)

-- one slot more is taken of them
pub take-next : (used : ℕ) (nodes : List (Option Node)) (v : Option Node) → used < length nodes → take (suc used) (set nodes used v) ≡ take used nodes ++ v ∷ []
take-next used [] v lt = absurd (omega (arith, lt))
take-next zero (x ∷ nodes) v lt = refl
take-next (suc used) (x ∷ nodes) v lt = ap (λ l. x ∷ l) (take-next used nodes v (omega (arith, lt)))

module _ (used slots : ℕ) (nodes : List (Option Node)) (le : used ≤ length nodes) where
  pub length-taken : length (take used nodes) ≡ used
  length-taken = length-take-le used nodes le

  pub seen-held : (k : ℕ) → IsHeld (slots_seen used slots nodes) k → IsHeld (take used nodes) k
  seen-held k h = held-used (take used nodes) (slots - used) k h

  pub seen-below : (k : ℕ) → IsHeld (slots_seen used slots nodes) k → k < used
  seen-below k h = omega (arith, held-below (take used nodes) k (seen-held k h), length-taken)

  pub seen-get : (k : ℕ) → k < used → get_or (slots_seen used slots nodes) k None ≡ get_or nodes k None
  seen-get k lt = get_or-seen used nodes (replicate (slots - used) None) k lt le

  pub seen-set : (k : ℕ) (v : Option Node) → k < used → slots_seen used slots (set nodes k v) ≡ set (slots_seen used slots nodes) k v
  seen-set k v lt =
      ap (λ l. l ++ replicate (slots - used) None) (take-set used nodes k v lt)
      ∙ sym (set-left (take used nodes) (replicate (slots - used) None) k v (omega (arith, lt, length-taken)))

  pub length-seen : used ≤ slots → length (slots_seen used slots nodes) ≡ slots
  length-seen l = omega (arith, l, length-taken, length-append (take used nodes) (replicate (slots - used) None), let free : Option Node = None in length-replicate (slots - used) free)

  pub seen-next : (v : Option Node) → used < slots → used < length nodes → slots_seen (suc used) slots (set nodes used v) ≡ set (slots_seen used slots nodes) used v
  seen-next v lt l =
      let rest : slots - used ≡ suc (slots - suc used) = omega (arith, lt) in
      let R : List (Option Node) = replicate (slots - suc used) None in
      ap (λ xs. xs ++ R) (take-next used nodes v l)
      ∙ append_assoc (take used nodes) (v ∷ []) R
      ∙ sym (set-seam (take used nodes) R None v)
      ∙ ap (λ (k : ℕ). set (take used nodes ++ None ∷ R) k v) length-taken
      ∙ ap (λ (m : ℕ). set (take used nodes ++ replicate m None) used v) (sym rest)

  pub seen-free : get_or (slots_seen used slots nodes) used None ≡ None
  seen-free = ap (λ (k : ℕ). get_or (slots_seen used slots nodes) k None) (sym length-taken) ∙ unused-free (take used nodes) (slots - used)

  pub seen-count : (names : List ℕ) (free : ℕ) → IsFreeStack names free (take used nodes) → free_count (slots_seen used slots nodes) ≡ free + (slots - used)
  seen-count names free s = omega (arith, s.count, free_count-append (take used nodes) (replicate (slots - used) None), free_count-replicate (slots - used))

  pub seen-more : (more : ℕ) → used ≤ slots → slots_seen used (slots + more) nodes ≡ slots_seen used slots nodes ++ replicate more None
  seen-more more l =
      let rest : slots + more - used ≡ (slots - used) + more = omega (arith, l) in
      ap (λ (m : ℕ). take used nodes ++ replicate m None) rest
      ∙ ap (λ xs. take used nodes ++ xs) (sym (replicate-append-replicate (slots - used) more None))
      ∙ sym (append_assoc (take used nodes) (replicate (slots - used) None) (replicate more None))

  pub taken-longer : (rest : List (Option Node)) → take used (nodes ++ rest) ≡ take used nodes
  taken-longer rest = take-append-le used nodes rest le
