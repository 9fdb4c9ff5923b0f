-- Regions of which the last bytes are as they were made.
use Rattle.std.proofs.Common.{◌≡◌, ℕ, ◌+◌, ◌-◌, ◌≤◌, List, ◌++◌, length, replicate, take, drop, min, sym, ap, ◌∙◌, arith, append_assoc, append-nil, length-append, Vec, ◌⊎◌, ◌<◌, inl, inr}
use Rattle.std.proofs.Math.Seq.{drop-append-add, take-append-add}
use Rattle.std.proofs.lemmas.Bool.{cases_lt}
use Rattle.std.proofs.lemmas.List.{drop-append-le, drop-replicate, length-drop, length-replicate, replicate-append-replicate, take-append-le, take-replicate, take_all, with_items_is}
use Rattle.std.specs.Vec.{with_items}
use Rattle.std.proofs.lemmas.Grind.{common_steps}
use Rattle.vk_heap.specs.Region.{splice, piece, with_fresh}
use Rattle.vk_heap.proofs.SpliceLemmas.{length-piece, length-splice}

-- fresh bytes
abbrev fresh : ℕ → List ℕ
fresh n = replicate n 205

length_fresh : (n : ℕ) → length (fresh n) ≡ n
length_fresh n = let byte : ℕ = 205 in length-replicate n byte

length_more : (bytes : List ℕ) (n : ℕ) → length (bytes ++ fresh n) ≡ length bytes + n
length_more bytes n = omega (arith, length-append bytes (fresh n), length_fresh n)

pub length_all : (bytes : List ℕ) (size : ℕ) → length bytes ≤ size → length (with_fresh bytes size) ≡ size
length_all bytes size le = omega (arith, le, length_more bytes (size - length bytes))

-- more of them are filled up
pub reached_same : (bytes : List ℕ) (end size : ℕ) → length bytes ≤ size → end ≤ size → with_fresh (bytes ++ fresh (end - length bytes)) size ≡ with_fresh bytes size
reached_same bytes end size le fits =
    append_assoc bytes (fresh (end - length bytes)) (fresh (size - length (bytes ++ fresh (end - length bytes))))
    ∙ ap (λ (l : List ℕ). bytes ++ l) (together ∙ ap (λ (k : ℕ). fresh k) sum)
  where
    together : fresh (end - length bytes) ++ fresh (size - length (bytes ++ fresh (end - length bytes))) ≡ fresh ((end - length bytes) + (size - length (bytes ++ fresh (end - length bytes))))
    together = let byte : ℕ = 205 in replicate-append-replicate (end - length bytes) (size - length (bytes ++ fresh (end - length bytes))) byte

    sum : (end - length bytes) + (size - length (bytes ++ fresh (end - length bytes))) ≡ size - length bytes
    sum = omega (arith, length_more bytes (end - length bytes), le, fits)

-- a part is written of those that were reached
splice_some : (bytes ys : List ℕ) (at size : ℕ) → at + length ys ≤ length bytes → with_fresh (splice bytes at ys) size ≡ splice (with_fresh bytes size) at ys
splice_some bytes ys at size fits = grind (arith, common_steps)

-- a part of them is read
pub piece_some : (bytes : List ℕ) (at n size : ℕ) → at + n ≤ length bytes → piece (with_fresh bytes size) at n ≡ piece bytes at n
piece_some bytes at n size fits = grind (arith, common_steps)

-- so many bytes are put in the place of as many
put_is : (s ys : List ℕ) (at n : ℕ) → n ≡ length ys → at + length ys ≤ length s → take at s ++ (ys ++ drop n (drop at s)) ≡ splice s at ys
put_is s ys at n same fits = grind (arith, common_steps)

-- a vector that was reached up to an end, in a region of some bytes
module _ {Z : Type 0} (v : Vec ℕ Z) (items : List ℕ) (end size : ℕ) (within : length items ≤ size) (fits : end ≤ size) (s : List ℕ) (is : s ≡ v.items) (reached : v.items ≡ items ++ fresh (end - length items)) where
  all : s ≡ items ++ fresh (end - length items)
  all = is ∙ reached

  long : end ≤ length s
  long = let l = ap (λ (xs : List ℕ). length xs) all ∙ length_more items (end - length items) in omega (arith, l)

  same : with_fresh s size ≡ with_fresh items size
  same = ap (λ (xs : List ℕ). with_fresh xs size) all ∙ reached_same items end size within fits

  -- it has as many bytes as before
  kept : (ws : List ℕ) → length ws ≡ length s → (with_items v ws).items ≡ ws
  kept ws l = with_items_is v ws (l ∙ ap (λ (xs : List ℕ). length xs) is ∙ sym v.ok.0)

  -- a part is written
  pub put_view : (ys : List ℕ) (at n : ℕ) → n ≡ length ys → at + length ys ≤ end → with_fresh (with_items v (take at s ++ (ys ++ drop n (drop at s)))).items size ≡ splice (with_fresh items size) at ys
  put_view ys at n many inside =
      let room : at + length ys ≤ length s = omega (arith, long, inside) in
      let put = put_is s ys at n many room in
      ap (λ (xs : List ℕ). with_fresh xs size) (kept (take at s ++ (ys ++ drop n (drop at s))) (ap (λ (xs : List ℕ). length xs) put ∙ length-splice s ys at room) ∙ put) ∙ splice_some s ys at size room ∙ ap (λ (xs : List ℕ). splice xs at ys) same

  -- a part is moved
  pub moved_view : (new : List ℕ) (at to n : ℕ) → new ≡ splice s to (piece s at n) → at + n ≤ end → to + n ≤ end → with_fresh (with_items v new).items size ≡ splice (with_fresh items size) to (piece (with_fresh items size) at n)
  moved_view new at to n moved from into =
      let room : at + n ≤ length s = omega (arith, long, from) in
      let many = length-piece s at n room in
      let place : to + length (piece s at n) ≤ length s = omega (arith, long, into, many) in
      ap (λ (xs : List ℕ). with_fresh xs size) (kept new (ap (λ (xs : List ℕ). length xs) moved ∙ length-splice s (piece s at n) to place) ∙ moved) ∙ splice_some s (piece s at n) to size place
      ∙ ap (λ (xs : List ℕ). splice xs to (piece s at n)) same
      ∙ ap (λ (xs : List ℕ). splice (with_fresh items size) to xs) (sym (piece_some s at n size room) ∙ ap (λ (xs : List ℕ). piece xs at n) same)

-- what is read: bytes that were reached, and fresh ones behind them
module _ (bytes : List ℕ) (at n size : ℕ) (within : length bytes ≤ size) (fits : at + n ≤ size) where
  abbrev count : ℕ
  count = size - length bytes

  -- of what begins where bytes were reached
  from_some : at ≤ length bytes → (there : ℕ) → there ≡ min n (length bytes - at) → piece bytes at there ++ fresh (n - there) ≡ piece (with_fresh bytes size) at n
  from_some le there is = go (cases_lt (length bytes - at) n)
    where
      long : length (drop at bytes) ≡ length bytes - at
      long = length-drop at bytes

      behind : drop at (with_fresh bytes size) ≡ drop at bytes ++ fresh count
      behind = drop-append-le at bytes (fresh count) le

      go : (length bytes - at < n) ⊎ (n ≤ length bytes - at) → piece bytes at there ++ fresh (n - there) ≡ piece (with_fresh bytes size) at n
      go (inr all) =
          let whole : there ≡ n = omega (arith, is, all) in
          let none : n - there ≡ 0 = omega (arith, whole) in
          ap (λ (k : ℕ). piece bytes at there ++ fresh k) none ∙ append-nil (piece bytes at there) ∙ ap (λ (k : ℕ). piece bytes at k) whole
          ∙ sym (ap (λ (l : List ℕ). take n l) behind ∙ take-append-le n (drop at bytes) (fresh count) (omega (arith, all, long)))
      go (inl more) =
          let some : there ≡ length (drop at bytes) = omega (arith, is, more, long) in
          let sum : n ≡ length (drop at bytes) + (n - there) = omega (arith, some, more, long) in
          let few : n - there ≤ count = omega (arith, some, long, within, fits, le) in
          let byte : ℕ = 205 in
          ap (λ (l : List ℕ). l ++ fresh (n - there)) (ap (λ (k : ℕ). take k (drop at bytes)) some ∙ take_all (length (drop at bytes)) (drop at bytes) (omega arith))
          ∙ sym (ap (λ (l : List ℕ). take n l) behind ∙ ap (λ (k : ℕ). take k (drop at bytes ++ fresh count)) sum ∙ take-append-add (drop at bytes) (fresh count) (n - there) ∙ ap (λ (l : List ℕ). drop at bytes ++ l) (take-replicate (n - there) count byte few))

  -- of what begins behind them
  from_fresh : length bytes ≤ at → fresh n ≡ piece (with_fresh bytes size) at n
  from_fresh le =
      let sum : at ≡ length bytes + (at - length bytes) = omega (arith, le) in
      let few : n ≤ count - (at - length bytes) = omega (arith, le, within, fits) in
      let byte : ℕ = 205 in
      sym (ap (λ (k : ℕ). take n (drop k (with_fresh bytes size))) sum ∙ ap (λ (l : List ℕ). take n l) (drop-append-add bytes (fresh count) (at - length bytes) ∙ drop-replicate (at - length bytes) count byte) ∙ take-replicate n (count - (at - length bytes)) byte few)

  pub read_some : (start there : ℕ) (known rest : List ℕ) → start ≡ min at (length bytes) → there ≡ min n (length bytes - start) → known ≡ piece bytes start there → rest ≡ fresh (n - there) → known ++ rest ≡ piece (with_fresh bytes size) at n
  read_some start there known rest first some known_is rest_is = ap (λ (l : List ℕ). l ++ rest) known_is ∙ ap (λ (l : List ℕ). piece bytes start there ++ l) rest_is ∙ go (cases_lt (length bytes) at)
    where
      go : (length bytes < at) ⊎ (at ≤ length bytes) → piece bytes start there ++ fresh (n - there) ≡ piece (with_fresh bytes size) at n
      go (inr le) =
          let same : start ≡ at = omega (arith, first, le) in
          ap (λ (k : ℕ). piece bytes k there ++ fresh (n - there)) same ∙ from_some le there (omega (arith, some, same))
      go (inl gt) =
          let none : there ≡ 0 = omega (arith, first, some, gt) in
          let all : n - there ≡ n = omega (arith, none) in
          ap (λ (k : ℕ). take k (drop start bytes) ++ fresh (n - there)) none ∙ ap (λ (k : ℕ). fresh k) all ∙ from_fresh (omega (arith, gt))
