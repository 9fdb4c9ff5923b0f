-- What is taken of a block is sound.
use Rattle.std.proofs.Common.{◌≡◌, ℕ, ◌+◌, ◌≤◌, List, [], ◌∷◌, Bool, true, false, ◌&&◌, not, refl, arith, cond}
use Rattle.std.specs.Prelude.{All, nat_le}
use Rattle.std.specs.List.{list_any}
use Rattle.std.proofs.lemmas.List.Elements.{All-from_recursion, All-cons}
use Rattle.std.proofs.lemmas.List.Kept.{AllPairs-cons}
use Rattle.std.proofs.lemmas.Bool.{and_parts, or_parts, not-true, leb-true}
use Rattle.vk_model.specs.Memory.Suballocation.{Taken, IsSound, IsApart, conflict}
use Rattle.vma_tlsf.specs.Block.{Block, is_sound, taken}

pub none_all : {A : Type 0} (p : A → Bool) (xs : List A) → list_any p xs ≡ false → All (λ x. p x ≡ false) xs
none_all p [] none = All-from_recursion (λ x. p x ≡ false) [] tt
none_all p (x ∷ xs) none = All-cons (λ y. p y ≡ false) x xs (or_parts (p x) (list_any p xs) none).0 (none_all p xs (or_parts (p x) (list_any p xs) none).1)

pub none_sound : (size : ℕ) → IsSound size []
none_sound size = record {
  inside = All-from_recursion (λ r. r.start + r.size ≤ size) [] tt;
  apart = λ i j d less there. absurd (omega arith);
}

pub tested_sound : (size : ℕ) (ts : List Taken) → is_sound size ts ≡ true → IsSound size ts
tested_sound size [] h = none_sound size
tested_sound size (t ∷ ts) h =
    let hits = list_any (λ u. conflict t.kind t.start t.size u.kind u.start u.size) ts in
    let two = and_parts (nat_le (t.start + t.size) size && not hits) (is_sound size ts) h in
    let one = and_parts (nat_le (t.start + t.size) size) (not hits) two.0 in
    let rest = tested_sound size ts two.1 in
    record {
      inside = All-cons (λ r. r.start + r.size ≤ size) t ts (leb-true (t.start + t.size) size one.0) rest.inside;
      apart = AllPairs-cons IsApart t ts (none_all (λ u. conflict t.kind t.start t.size u.kind u.start u.size) ts (not-true hits one.1)) rest.apart;
    }

pub taken_is_sound : (b : Block) → IsSound b.size (taken b)
taken_is_sound b = cases (is_sound b.size b.taken) refl
  where
    cases : (c : Bool) → is_sound b.size b.taken ≡ c → IsSound b.size (cond c b.taken [])
    cases true h = tested_sound b.size b.taken h
    cases false h = none_sound b.size
