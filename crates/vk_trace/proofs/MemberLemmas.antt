-- Reading the members of an array one after the other.
use Rattle.std.proofs.Common.{◌≡◌, ◌≤◌, ℕ, List, [], ◌∷◌, ◌++◌, Option, Some, None, map, refl, sym, ap, ◌∙◌, append_assoc, append-nil, ◌+◌, ◌<◌, length, drop, get_or}
use Rattle.std.proofs.lemmas.List.{drop_all, drop_more}
use Rattle.serde_json.specs.Data.{Data}
use Rattle.vk_trace.specs.declared.errors.ReadTraceError.{ReadTraceError}
use Rattle.vk_trace.specs.declared.errors.ReadTraceError.TheVariants.{NotTrace, NoMemory}
use Rattle.vk_trace.specs.Members.{◌>>=◌, each_member}
use Rattle.vk_trace.specs.Inner.Gives.{Fails}

-- what was read before, and what is still read
abbrev pub with_front : {X : Type 0} → List X → Option (List X) → Option (List X)
with_front front read = read >>= λ xs. Some (front ++ xs)

-- a member that was read moves to the front
regroup : {X : Type 0} (front : List X) (x : X) (read : Option (List X)) → with_front front (read >>= λ xs. Some (x ∷ xs)) ≡ with_front (front ++ x ∷ []) read
regroup front x (Some xs) = ap Some (simp append_assoc)
regroup front x None = refl

-- one member more was read
pub goes_on : {X : Type 0} (means : Data → Option X) (front : List X) (d : Data) (ds : List Data) (x : X) (total : Option (List X)) → means d ≡ Some x
    → with_front front (each_member means (d ∷ ds)) ≡ total → with_front (front ++ x ∷ []) (each_member means ds) ≡ total
unfolding each_member
goes_on means front d ds x total h so_far =
    let one : with_front front (each_member means (d ∷ ds)) ≡ with_front (front ++ x ∷ []) (each_member means ds) = rw h (regroup front x (each_member means ds)) in
    sym one ∙ so_far

-- a member that could not be read ends the list
pub ends : {X : Type 0} (e : ReadTraceError) (means : Data → Option X) (front : List X) (d : Data) (ds : List Data) (total : Option (List X)) → Fails e (means d)
    → with_front front (each_member means (d ∷ ds)) ≡ total → Fails e total
unfolding each_member
ends NoMemory means front d ds total h so_far = tt
ends NotTrace means front d ds total h so_far =
    let one : with_front front (each_member means (d ∷ ds)) ≡ None = rw h refl in
    sym so_far ∙ one

-- no member is left
pub is_done : {X : Type 0} (means : Data → Option X) (front : List X) (total : Option (List X)) → with_front front (each_member means []) ≡ total → total ≡ Some front
unfolding each_member
is_done means front total so_far = sym so_far ∙ ap Some (append-nil front)

-- ---- lists that are put together

pub mapped_on : {A B : Type 0} (f : A → B) (new old whole : List B) (xs : List A) (i : ℕ) (d : A) → i < length xs → new ≡ old ++ f (get_or xs i d) ∷ [] → old ++ map f (drop i xs) ≡ whole → new ++ map f (drop (i + 1) xs) ≡ whole
mapped_on {A} {B} f new old whole xs i d lt pushed so_far =
    ap (λ (l : List B). l ++ map f (drop (i + 1) xs)) pushed
    ∙ append_assoc old (f (get_or xs i d) ∷ []) (map f (drop (i + 1) xs))
    ∙ ap (λ (l : List A). old ++ map f l) (sym (drop_more xs i d lt))
    ∙ so_far

pub mapped_all : {A B : Type 0} (f : A → B) (now whole : List B) (xs : List A) (i : ℕ) → length xs ≤ i → now ++ map f (drop i xs) ≡ whole → now ≡ whole
mapped_all {A} f now whole xs i le so_far = sym (append-nil now) ∙ ap (λ (l : List A). now ++ map f l) (sym (drop_all i xs le)) ∙ so_far
