-- Lemmas on slots as a list.
use Rattle.std.proofs.Common.{◌≡◌, ℕ, zero, suc, ◌+◌, ◌<◌, ◌≤◌, List, [], ◌∷◌, ◌++◌, length, get_or, set, replicate, Option, None, Some, IsTrue, is_some, refl, ap, arith}
use Rattle.vk_nodes.specs.declared.node.Node.{Node}
use Rattle.vk_nodes.specs.Slots.{IsHeld, AllHeld, free_count}

pub not-held : IsTrue (is_some {T = Node} None) → ⊥
not-held h = cc

-- a slot that is held has a node
pub node-held : (slots : List (Option Node)) (k : ℕ) → IsHeld slots k → (n : Node) × (get_or slots k None ≡ Some n)
node-held slots k h = cases (get_or slots k None) h refl
  where
    cases : (x : Option Node) → IsTrue (is_some x) → get_or slots k None ≡ x → (n : Node) × (get_or slots k None ≡ Some n)
    cases None h is = absurd (not-held h)
    cases (Some n) h is = (n, is)

pub held-below : (slots : List (Option Node)) (k : ℕ) → IsHeld slots k → k < length slots
held-below [] k h = absurd (not-held h)
held-below (s ∷ slots) zero h = omega arith
held-below (s ∷ slots) (suc k) h = omega (arith, held-below slots k h)

pub free_count-le : (slots : List (Option Node)) → free_count slots ≤ length slots
free_count-le [] = omega arith
free_count-le (None ∷ slots) = omega (arith, free_count-le slots)
free_count-le (Some n ∷ slots) = omega (arith, free_count-le slots)

-- a free slot takes a node
pub free_count-set_some : (slots : List (Option Node)) (k : ℕ) (n : Node) → k < length slots → get_or slots k None ≡ None → suc (free_count (set slots k (Some n))) ≡ free_count slots
free_count-set_some [] k n lt e = omega (arith, lt)
free_count-set_some (None ∷ slots) zero n lt e = refl
free_count-set_some (Some m ∷ slots) zero n lt e = cc
free_count-set_some (None ∷ slots) (suc k) n lt e = ap suc (free_count-set_some slots k n (omega (arith, lt)) e)
free_count-set_some (Some m ∷ slots) (suc k) n lt e = free_count-set_some slots k n (omega (arith, lt)) e

-- a slot is freed
pub free_count-set_none : (slots : List (Option Node)) (k : ℕ) → IsHeld slots k → free_count (set slots k None) ≡ suc (free_count slots)
free_count-set_none [] k h = absurd (not-held h)
free_count-set_none (None ∷ slots) zero h = absurd (not-held h)
free_count-set_none (Some m ∷ slots) zero h = refl
free_count-set_none (None ∷ slots) (suc k) h = ap suc (free_count-set_none slots k h)
free_count-set_none (Some m ∷ slots) (suc k) h = free_count-set_none slots k h

-- a node is put in the place of another
pub free_count-set_held : (slots : List (Option Node)) (k : ℕ) (n : Node) → IsHeld slots k → free_count (set slots k (Some n)) ≡ free_count slots
free_count-set_held [] k n h = absurd (not-held h)
free_count-set_held (None ∷ slots) zero n h = absurd (not-held h)
free_count-set_held (Some m ∷ slots) zero n h = refl
free_count-set_held (None ∷ slots) (suc k) n h = ap suc (free_count-set_held slots k n h)
free_count-set_held (Some m ∷ slots) (suc k) n h = free_count-set_held slots k n h

pub free_count-append : (xs ys : List (Option Node)) → free_count (xs ++ ys) ≡ free_count xs + free_count ys
free_count-append [] ys = omega arith
free_count-append (None ∷ xs) ys = omega (arith, free_count-append xs ys)
free_count-append (Some m ∷ xs) ys = free_count-append xs ys

pub free_count-replicate : (n : ℕ) → free_count (replicate n None) ≡ n
free_count-replicate zero = refl
free_count-replicate (suc n) = ap suc (free_count-replicate n)

-- where a slot is held not all are free
pub free_count-held : (slots : List (Option Node)) (k : ℕ) → IsHeld slots k → free_count slots < length slots
free_count-held [] k h = absurd (not-held h)
free_count-held (None ∷ slots) zero h = absurd (not-held h)
free_count-held (Some m ∷ slots) zero h = omega (arith, free_count-le slots)
free_count-held (None ∷ slots) (suc k) h = omega (arith, free_count-held slots k h)
free_count-held (Some m ∷ slots) (suc k) h = omega (arith, free_count-held slots k h)

-- where none is free each is held
pub all-held : (slots : List (Option Node)) → free_count slots ≡ 0 → AllHeld slots
all-held [] e k lt = absurd (omega (arith, lt))
all-held (None ∷ slots) e k lt = absurd (omega (arith, e))
all-held (Some m ∷ slots) e zero lt = refl
all-held (Some m ∷ slots) e (suc k) lt = all-held slots e k (omega (arith, lt))
