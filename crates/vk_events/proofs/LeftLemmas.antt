-- What is left to be taken, as nodes come, happen and are taken.
use Rattle.std.proofs.Common.{◌≡◌, ℕ, zero, suc, ◌+◌, ◌<◌, ◌≤◌, List, [], ◌∷◌, ◌++◌, reverse, length, get_or, Bool, true, false, not, ◌&&◌, ◌||◌, ◌==◌, refl, ap, sym, ◌∙◌, subst, arith, IsTrue}
use Rattle.std.specs.Prelude.{Contains, Some, slice_get, if◌then◌else◌}
use Rattle.std.specs.List.{filter}
use Rattle.std.proofs.lemmas.Bool.{eq-eqb, ne_eqb}
use Rattle.std.proofs.lemmas.Grind.{common_steps}
use Rattle.std.proofs.lemmas.List.{append-nil}
use Rattle.std.proofs.lemmas.List.Elements.{filter-append}
use Rattle.std.proofs.lemmas.List.Sorted.{IsPermutation-reverse, IsPermutation-sym, Contains-permutation}
use Rattle.vk_model.specs.Sync.Node.{Node}
use Rattle.vk_model.specs.Run.CachedRuns.{is_synchronization}
use Rattle.vk_model.proofs.Lists.Members.{filtered, place_has}
use Rattle.vk_events.specs.Happens.{synchronizations}
use Rattle.vk_events.specs.IsEvents.{left_of}

-- ---- the dependencies, waits and signals

pub reversed : (n : Node) (ns : List Node) → reverse (n ∷ ns) ≡ reverse ns ++ n ∷ []
reversed n ns = grind (arith, common_steps)

pub synchronization_more : (n : Node) (ns : List Node) → is_synchronization n.act ≡ true → synchronizations (n ∷ ns) ≡ synchronizations ns ++ n ∷ []
synchronization_more n ns is =
    ap (λ (ms : List Node). filter (λ m. is_synchronization m.act) ms) (reversed n ns) ∙ filter-append (λ m. is_synchronization m.act) (reverse ns) (n ∷ [])
    ∙ ap (λ (b : Bool). synchronizations ns ++ (if b then n ∷ [] else [])) is

pub synchronization_same : (n : Node) (ns : List Node) → is_synchronization n.act ≡ false → synchronizations (n ∷ ns) ≡ synchronizations ns
synchronization_same n ns isnt =
    ap (λ (ms : List Node). filter (λ m. is_synchronization m.act) ms) (reversed n ns) ∙ filter-append (λ m. is_synchronization m.act) (reverse ns) (n ∷ [])
    ∙ ap (λ (b : Bool). synchronizations ns ++ (if b then n ∷ [] else [])) isnt ∙ append-nil (synchronizations ns)

pub synchronization_at : (ns : List Node) (i : ℕ) (n : Node) → slice_get (synchronizations ns) i ≡ Some n → Contains ns n × IsTrue (is_synchronization n.act)
synchronization_at ns i n at =
    let f = filtered (λ (m : Node). is_synchronization m.act) (reverse ns) n (place_has (synchronizations ns) i n at) in
    (Contains-permutation (reverse ns) ns n (IsPermutation-sym ns (reverse ns) (IsPermutation-reverse ns)) f.0, f.1)

-- ---- what is left

-- by another test that agrees
pub left_same : (f g : Node → Bool) (taken : ℕ → Bool) (k : ℕ) (ss : List Node) → ((i : ℕ) (n : Node) → slice_get ss i ≡ Some n → f n ≡ g n) → left_of f taken k ss ≡ left_of g taken k ss
left_same f g taken k [] same = refl
left_same f g taken k (n ∷ ss) same =
    ap (λ (b : Bool). if b && not (taken k) then n ∷ left_of f taken (k + 1) ss else left_of f taken (k + 1) ss) (same 0 n refl)
    ∙ ap (λ (rest : List Node). if g n && not (taken k) then n ∷ rest else rest) (left_same f g taken (k + 1) ss (λ i m at. same (suc i) m at))

-- by what is taken that agrees from here on
pub left_taken : (f : Node → Bool) (a b : ℕ → Bool) (k : ℕ) (ss : List Node) → ((j : ℕ) → k ≤ j → a j ≡ b j) → left_of f a k ss ≡ left_of f b k ss
left_taken f a b k [] same = refl
left_taken f a b k (n ∷ ss) same =
    ap (λ (t : Bool). if f n && not t then n ∷ left_of f a (k + 1) ss else left_of f a (k + 1) ss) (same k (omega arith))
    ∙ ap (λ (rest : List Node). if f n && not (b k) then n ∷ rest else rest) (left_taken f a b (k + 1) ss (λ j le. same j (omega arith)))

-- with one node more
pub left_push : (f : Node → Bool) (taken : ℕ → Bool) (k : ℕ) (ss : List Node) (n : Node) → left_of f taken k (ss ++ n ∷ []) ≡ left_of f taken k ss ++ (if f n && not (taken (k + length ss)) then n ∷ [] else [])
left_push f taken k [] n = ap (λ (i : ℕ). if f n && not (taken i) then n ∷ [] else []) (omega arith)
left_push f taken k (m ∷ ss) n = go (f m && not (taken k)) (left_push f taken (k + 1) ss n)
  where
    own : k + 1 + length ss ≡ k + length (m ∷ ss)
    own = omega arith

    go : (b : Bool) → left_of f taken (k + 1) (ss ++ n ∷ []) ≡ left_of f taken (k + 1) ss ++ (if f n && not (taken (k + 1 + length ss)) then n ∷ [] else [])
        → (if b then m ∷ left_of f taken (k + 1) (ss ++ n ∷ []) else left_of f taken (k + 1) (ss ++ n ∷ []))
        ≡ (if b then m ∷ left_of f taken (k + 1) ss else left_of f taken (k + 1) ss) ++ (if f n && not (taken (k + length (m ∷ ss))) then n ∷ [] else [])
    go true rest = ap (λ (ms : List Node). m ∷ ms) (rest ∙ ap (λ (i : ℕ). left_of f taken (k + 1) ss ++ (if f n && not (taken i) then n ∷ [] else [])) own)
    go false rest = rest ∙ ap (λ (i : ℕ). left_of f taken (k + 1) ss ++ (if f n && not (taken i) then n ∷ [] else [])) own

-- where just those are taken that pass another test
pub left_filter : (f g : Node → Bool) (taken : ℕ → Bool) (k : ℕ) (ss : List Node) → ((i : ℕ) (n : Node) → slice_get ss i ≡ Some n → taken (k + i) ≡ g n) → left_of f taken k ss ≡ filter (λ n. f n && not (g n)) ss
left_filter f g taken k [] same = refl
left_filter f g taken k (n ∷ ss) same =
    ap (λ (t : Bool). if f n && not t then n ∷ left_of f taken (k + 1) ss else left_of f taken (k + 1) ss) (ap taken (omega arith) ∙ same 0 n refl)
    ∙ ap (λ (rest : List Node). if f n && not (g n) then n ∷ rest else rest) (left_filter f g taken (k + 1) ss (λ i m at. ap taken (omega arith) ∙ same (suc i) m at))

-- none, where all that pass are taken, and so the other way round
pub left_none : (f : Node → Bool) (taken : ℕ → Bool) (k : ℕ) (ss : List Node) → ((i : ℕ) (n : Node) → slice_get ss i ≡ Some n → IsTrue (f n) → IsTrue (taken (k + i))) → left_of f taken k ss ≡ []
left_none f taken k [] all = refl
left_none f taken k (n ∷ ss) all = go (f n) (taken k) refl refl (left_none f taken (k + 1) ss (λ i m at passes. subst (λ (j : ℕ). IsTrue (taken j)) (omega arith) (all (suc i) m at passes)))
  where
    go : (a b : Bool) → f n ≡ a → taken k ≡ b → left_of f taken (k + 1) ss ≡ [] → (if a && not b then n ∷ left_of f taken (k + 1) ss else left_of f taken (k + 1) ss) ≡ []
    go true true e t rest = rest
    go true false e t rest = absurd (let yes : taken k ≡ true = subst (λ (j : ℕ). IsTrue (taken j)) (omega arith) (all 0 n refl e) in let z : false ≡ true = sym t ∙ yes in cc)
    go false b e t rest = rest

pub none_left : (f : Node → Bool) (taken : ℕ → Bool) (k : ℕ) (ss : List Node) → left_of f taken k ss ≡ [] → (i : ℕ) (n : Node) → slice_get ss i ≡ Some n → IsTrue (f n) → IsTrue (taken (k + i))
none_left f taken k [] none i n at passes = absurd cc
none_left f taken k (m ∷ ss) none i n at passes = go (f m) (taken k) refl refl none i at (λ rest j at'. subst (λ (l : ℕ). IsTrue (taken l)) (omega arith) (none_left f taken (k + 1) ss rest j n at' passes))
  where
    some_node : (x y : Node) → Some x ≡ Some y → x ≡ y
    some_node x y e = cc

    go : (a b : Bool) → f m ≡ a → taken k ≡ b → (if a && not b then m ∷ left_of f taken (k + 1) ss else left_of f taken (k + 1) ss) ≡ [] → (i : ℕ) → slice_get (m ∷ ss) i ≡ Some n
        → (left_of f taken (k + 1) ss ≡ [] → (j : ℕ) → slice_get ss j ≡ Some n → IsTrue (taken (k + suc j))) → IsTrue (taken (k + i))
    go true true e t rest zero at later = subst (λ (j : ℕ). IsTrue (taken j)) (omega arith) t
    go true true e t rest (suc j) at later = later rest j at
    go true false e t rest i at later = absurd cc
    go false b e t rest zero at later = absurd (let same : m ≡ n = some_node m n at in let z : false ≡ true = sym e ∙ ap f same ∙ passes in cc)
    go false b e t rest (suc j) at later = later rest j at

-- the first that is left is taken
pub left_take : (f : Node → Bool) (taken : ℕ → Bool) (k : ℕ) (ss : List Node) (i : ℕ) (n : Node) → slice_get ss i ≡ Some n → f n ≡ true → taken (k + i) ≡ false
    → ((j : ℕ) (m : Node) → j < i → slice_get ss j ≡ Some m → IsTrue (f m) → IsTrue (taken (k + j))) → left_of f taken k ss ≡ n ∷ left_of f (λ j. taken j || j == k + i) k ss
left_take f taken k [] i n at passes new before = absurd cc
left_take f taken k (m ∷ ss) zero n at passes new before =
    ap (λ (b : Bool). if b && not (taken k) then m ∷ left_of f taken (k + 1) ss else left_of f taken (k + 1) ss) (ap f same ∙ passes)
    ∙ ap (λ (b : Bool). if not b then m ∷ left_of f taken (k + 1) ss else left_of f taken (k + 1) ss) (ap taken (omega arith) ∙ new)
    ∙ ap (λ (x : Node). x ∷ left_of f taken (k + 1) ss) same
    ∙ ap (λ (ms : List Node). n ∷ ms) (left_taken f taken (λ j. taken j || j == k + 0) (k + 1) ss (λ j le. sym (ap (λ (b : Bool). taken j || b) (ne_eqb j (k + 0) (λ e. let e' : j ≡ k + 0 = e in omega arith)) ∙ or_false (taken j)))
    ∙ sym (skipped (f m)))
  where
    same : m ≡ n
    same = cc

    or_false : (b : Bool) → (b || false) ≡ b
    or_false true = refl
    or_false false = refl

    or_true : (b : Bool) → (b || true) ≡ true
    or_true true = refl
    or_true false = refl

    skipped : (b : Bool) → (if b && not (taken k || k == k + 0) then m ∷ left_of f (λ j. taken j || j == k + 0) (k + 1) ss else left_of f (λ j. taken j || j == k + 0) (k + 1) ss) ≡ left_of f (λ j. taken j || j == k + 0) (k + 1) ss
    skipped true = ap (λ (t : Bool). if not t then m ∷ left_of f (λ j. taken j || j == k + 0) (k + 1) ss else left_of f (λ j. taken j || j == k + 0) (k + 1) ss) (ap (λ (t : Bool). taken k || t) (eq-eqb k (k + 0) (omega arith)) ∙ or_true (taken k))
    skipped false = refl
left_take f taken k (m ∷ ss) (suc i) n at passes new before =
    skipped (f m) (taken k) refl refl
    ∙ left_take f taken (k + 1) ss i n at passes (ap taken (omega arith) ∙ new) (λ j x lt here p. subst (λ (l : ℕ). IsTrue (taken l)) (omega arith) (before (suc j) x (omega arith) here p))
    ∙ ap (λ (ms : List Node). n ∷ ms) (left_taken f (λ j. taken j || j == k + 1 + i) (λ j. taken j || j == k + suc i) (k + 1) ss (λ j le. ap (λ (l : ℕ). taken j || j == l) (omega arith))
    ∙ sym (ap (λ (b : Bool). if f m && not (taken k || b) then m ∷ left_of f (λ j. taken j || j == k + suc i) (k + 1) ss else left_of f (λ j. taken j || j == k + suc i) (k + 1) ss) (ne_eqb k (k + suc i) (λ e. let e' : k ≡ k + suc i = e in omega arith))
    ∙ skipped_then (f m) (taken k) refl refl))
  where
    must : IsTrue (f m) → IsTrue (taken k)
    must p = subst (λ (l : ℕ). IsTrue (taken l)) (omega arith) (before 0 m (omega arith) refl p)

    skipped : (a b : Bool) → f m ≡ a → taken k ≡ b → (if a && not b then m ∷ left_of f taken (k + 1) ss else left_of f taken (k + 1) ss) ≡ left_of f taken (k + 1) ss
    skipped true true e t = refl
    skipped true false e t = absurd (let yes : taken k ≡ true = must e in let z : false ≡ true = sym t ∙ yes in cc)
    skipped false b e t = refl

    skipped_then : (a b : Bool) → f m ≡ a → taken k ≡ b → (if a && not (b || false) then m ∷ left_of f (λ j. taken j || j == k + suc i) (k + 1) ss else left_of f (λ j. taken j || j == k + suc i) (k + 1) ss) ≡ left_of f (λ j. taken j || j == k + suc i) (k + 1) ss
    skipped_then true true e t = refl
    skipped_then true false e t = absurd (let yes : taken k ≡ true = must e in let z : false ≡ true = sym t ∙ yes in cc)
    skipped_then false b e t = refl

-- ---- lists

-- a test after another
pub filter_twice : (f g h : Node → Bool) (xs : List Node) → filter (λ x. g x && h x) (filter f xs) ≡ filter (λ x. f x && g x && h x) xs
filter_twice f g h [] = refl
filter_twice f g h (x ∷ xs) = go (f x) (filter_twice f g h xs)
  where
    go : (b : Bool) → filter (λ y. g y && h y) (filter f xs) ≡ filter (λ y. f y && g y && h y) xs
        → filter (λ y. g y && h y) (if b then x ∷ filter f xs else filter f xs) ≡ (if b && g x && h x then x ∷ filter (λ y. f y && g y && h y) xs else filter (λ y. f y && g y && h y) xs)
    go true rest = ap (λ (ys : List Node). if g x && h x then x ∷ ys else ys) rest
    go false rest = rest

-- an item that is read
pub read_item : {X : Type 0} (xs : List X) (i : ℕ) (x : X) → i < length xs → x ≡ get_or xs i x → slice_get xs i ≡ Some x
read_item [] i x lt e = absurd (omega arith)
read_item (y ∷ ys) zero x lt e = ap (λ (z : _). Some z) (sym e)
read_item (y ∷ ys) (suc i) x lt e = read_item ys i x (omega arith) e

pub got_item : {X : Type 0} (xs : List X) (i : ℕ) (x d : X) → slice_get xs i ≡ Some x → get_or xs i d ≡ x
got_item [] i x d e = absurd cc
got_item (y ∷ ys) zero x d e = cc
got_item (y ∷ ys) (suc i) x d e = got_item ys i x d e
