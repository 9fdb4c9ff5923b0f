-- Items of lists that are joined, mapped, filtered or get longer. Other crates cite it.
use Rattle.std.proofs.Common.{◌≡◌, ◌⊎◌, inl, inr, ⊎_elim, ℕ, zero, suc, ◌+◌, ◌<◌, List, [], ◌∷◌, ◌++◌, map, length, Bool, true, Some, refl, ap, ◌∙◌, arith}
use Rattle.std.specs.Prelude.{Contains, slice_get, option_map}
use Rattle.std.specs.List.{filter, flat_map}
use Rattle.std.proofs.lemmas.List.{map-append}
use Rattle.std.proofs.lemmas.Option.{slice_get-map}
use Rattle.vk_model.proofs.Lists.Members.{contains-head, contains-tail}

-- ---- what is there

pub item_at : {X : Type 0} (xs : List X) (j : ℕ) → j < length xs → (x : X) × (slice_get xs j ≡ Some x)
item_at [] j lt = absurd (omega arith)
item_at (x ∷ xs) zero lt = (x, refl)
item_at (x ∷ xs) (suc j) lt = item_at xs j (omega arith)

pub some_same : {X : Type 0} (x y : X) → Some x ≡ Some y → x ≡ y
some_same x y e = cc

-- ---- one list after another

pub get_before : {X : Type 0} (xs ys : List X) (j : ℕ) → j < length xs → slice_get (xs ++ ys) j ≡ slice_get xs j
get_before [] ys j lt = absurd (omega arith)
get_before (x ∷ xs) ys zero lt = refl
get_before (x ∷ xs) ys (suc j) lt = get_before xs ys j (omega arith)

-- ---- a list with one item more

pub push_old : {X : Type 0} (xs : List X) (x y : X) (j : ℕ) → slice_get xs j ≡ Some y → slice_get (xs ++ x ∷ []) j ≡ Some y
push_old [] x y j e = absurd cc
push_old (z ∷ zs) x y zero e = e
push_old (z ∷ zs) x y (suc j) e = push_old zs x y j e

pub push_new : {X : Type 0} (xs : List X) (x : X) → slice_get (xs ++ x ∷ []) (length xs) ≡ Some x
push_new [] x = refl
push_new (z ∷ zs) x = push_new zs x

-- an item is one of those that were there, or the last
pub push_cases : {X : Type 0} (xs : List X) (x y : X) (j : ℕ) → slice_get (xs ++ x ∷ []) j ≡ Some y → (slice_get xs j ≡ Some y) ⊎ ((j ≡ length xs) × (x ≡ y))
push_cases [] x y zero e = inr (refl, cc)
push_cases [] x y (suc j) e = absurd cc
push_cases (z ∷ zs) x y zero e = inl e
push_cases (z ∷ zs) x y (suc j) e = ⊎_elim (λ old. inl old) (λ new. inr (let at = new.0 in omega arith, new.1)) (push_cases zs x y j e)

-- ---- what a function makes of each item

pub get_mapped : {X Y : Type 0} (f : X → Y) (xs : List X) (j : ℕ) (x : X) → slice_get xs j ≡ Some x → slice_get (map f xs) j ≡ Some (f x)
get_mapped f xs j x e = slice_get-map f xs j ∙ ap (option_map f) e

pub map_flat : {X Y Z : Type 0} (h : Y → Z) (f : X → List Y) (xs : List X) → map h (flat_map f xs) ≡ flat_map (λ x. map h (f x)) xs
map_flat h f [] = refl
map_flat h f (x ∷ xs) = map-append h (f x) (flat_map f xs) ∙ ap (λ l. map h (f x) ++ l) (map_flat h f xs)

-- ---- a test that each item passes leaves them all

pub filter_each : {X : Type 0} (f : X → Bool) (xs : List X) → ((x : X) → Contains xs x → f x ≡ true) → filter f xs ≡ xs
filter_each f [] passes = refl
filter_each {X} f (x ∷ xs) passes = rw (passes x (contains-head x xs)) (ap (λ (l : List X). x ∷ l) (filter_each f xs (λ y c. passes y (contains-tail x xs y c))))
