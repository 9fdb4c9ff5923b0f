-- Resources by place, and resources with ids of their own.
use Rattle.std.proofs.Common.{◌≡◌, ◌⊎◌, inl, inr, List, [], ◌∷◌, not, ◌==◌, refl, ap, sym, ◌∙◌, arith}
use Rattle.std.specs.Prelude.{AllPairs, Contains, IsTrue, ⊤}
use Rattle.std.specs.List.{list_any}
use Rattle.std.proofs.lemmas.Bool.{eq-eqb}
use Rattle.std.proofs.lemmas.List.Elements.{All-from_recursion}
use Rattle.std.proofs.lemmas.List.Kept.{AllPairs-cons}
use Rattle.std.proofs.lemmas.List.Sorted.{IsPermutation-reverse}
use Rattle.vk_model.specs.Memory.MoveTargets.{Resident}
use Rattle.vk_model.specs.Memory.Pools.{IsHigher, IsByPlace}
use Rattle.vk_model.proofs.Lists.Members.{contains-cons, none_in, member_passes}
use Rattle.vk_model.proofs.Lists.Truths.{contradicted}
use Rattle.vk_rows.specs.Places.{resident}
use Rattle.vk_rows.specs.PoolBlocks.{left, from_above}

Higher : Resident → Resident → Type 0
Higher a b = IsHigher a.from b.from

falling : AllPairs Higher from_above
unfolding Higher
falling =
    let a = resident 11 0 1024 in
    let b = resident 13 0 3072 in
    let c = resident 15 1 1024 in
    let d = resident 17 1 3072 in
    AllPairs-cons Higher d (c ∷ b ∷ a ∷ []) (All-from_recursion (Higher d) (c ∷ b ∷ a ∷ []) (inr (refl, omega arith), (inl (omega arith), (inl (omega arith), tt))))
    (AllPairs-cons Higher c (b ∷ a ∷ []) (All-from_recursion (Higher c) (b ∷ a ∷ []) (inl (omega arith), (inl (omega arith), tt)))
    (AllPairs-cons Higher b (a ∷ []) (All-from_recursion (Higher b) (a ∷ []) (inr (refl, omega arith), tt))
    (AllPairs-cons Higher a [] (All-from_recursion (Higher a) [] tt) (λ i j d less there. absurd (omega arith)))))

pub by_place : IsByPlace left from_above
unfolding Higher
by_place = record { same = IsPermutation-reverse left; falling = falling }

-- no two have one id
abbrev pub AreApart : List Resident → Type 0
AreApart [] = ⊤
AreApart (a ∷ rs) = IsTrue (not (list_any (λ b. b.id == a.id) rs)) × AreApart rs

pub ids_apart : (rs : List Resident) → AreApart rs → (a b : Resident) → Contains rs a → Contains rs b → a.id ≡ b.id → a ≡ b
ids_apart [] h a b c d same = absurd (none_in a c)
ids_apart (r ∷ rs) h a b c d same = go (contains-cons r rs a c) (contains-cons r rs b d) (ids_apart rs h.1 a b)
  where
    other : (x : Resident) → Contains rs x → x.id ≡ r.id → ⊥
    other x there e = contradicted (list_any (λ y. y.id == r.id) rs) (member_passes (λ y. y.id == r.id) rs x there (eq-eqb x.id r.id e)) h.0

    go : (r ≡ a) ⊎ Contains rs a → (r ≡ b) ⊎ Contains rs b → (Contains rs a → Contains rs b → a.id ≡ b.id → a ≡ b) → a ≡ b
    go (inl p) (inl q) rest = sym p ∙ q
    go (inl p) (inr q) rest = absurd (other b q (sym same ∙ sym (ap (λ (x : Resident). x.id) p)))
    go (inr p) (inl q) rest = absurd (other a p (same ∙ sym (ap (λ (x : Resident). x.id) q)))
    go (inr p) (inr q) rest = rest p q same
