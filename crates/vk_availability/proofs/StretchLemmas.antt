-- Stretches inside a memory object.
use Rattle.std.proofs.Common.{◌≡◌, ℕ, ◌+◌, ◌-◌, ◌<◌, ◌≤◌, List, true, false, not, ◌&&◌, refl, ap, ◌∙◌, arith}
use Rattle.std.specs.Prelude.{◌||◌, Bool}
use Rattle.std.proofs.lemmas.Bool.{and_from, le-leb, lt-ltb}
use Rattle.vk_transfer.specs.declared.stretches.Stretch.{Stretch}
use Rattle.vk_transfer.specs.Stretches.{lies_in}
use Rattle.vk_image_transfer.specs.Stretches.{is_among, Takes}

-- a stretch that is taken of bytes that lie inside ends inside
pub ends_inside : (s : Stretch) (old new : List Stretch) (len : ℕ) → Takes s old new → ((k : ℕ) → is_among old k ≡ true → k < len) → s.at + s.size ≤ len
ends_inside s old new len takes inside =
    let lt = inside last (takes.bytes last ∙ ap (λ (b : Bool). b || is_among new last) lies) in
    let some = takes.some in omega (arith, lt, some)
  where
    last : ℕ
    last = s.at + s.size - 1

    lies : lies_in s (s.at + s.size - 1) ≡ true
    lies = let some = takes.some in and_from _ _ (le-leb s.at (s.at + s.size - 1) (omega (arith, some))) (lt-ltb (s.at + s.size - 1) (s.at + s.size) (omega (arith, some)))

-- where no byte is left to be walked, all were
pub all_walked : (x a l : Bool) → l ≡ false → (x && (a && not l)) ≡ (x && a)
all_walked x a true e = absurd cc
all_walked true true false e = refl
all_walked true false false e = refl
all_walked false a false e = refl
