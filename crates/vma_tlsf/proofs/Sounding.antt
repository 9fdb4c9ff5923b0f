-- A block stays sound: its test, and the laws of taking and giving back.
use Rattle.std.proofs.Common.{◌≡◌, ℕ, suc, ◌+◌, ◌%◌, ◌≤◌, List, [], ◌∷◌, Bool, true, false, ◌&&◌, not, Option, refl, ap, arith}
use Rattle.std.specs.Prelude.{All, nat_le, IsTrue}
use Rattle.std.specs.List.{list_any}
use Rattle.std.proofs.lemmas.List.Elements.{All-head, All-tail, All-from_get_or}
use Rattle.std.proofs.lemmas.Bool.{and_from, le-leb}
use Rattle.vk_nodes.specs.declared.node.Node.{Node}
use Rattle.vk_model.specs.Memory.Suballocation.{Taken, Request, IsSound, conflict, taken_at}
use Rattle.vk_model.specs.Memory.Room.{fits}
use Rattle.vk_model.specs.Memory.PlaceLaws.{PuttingIsSound, TakingAwayIsSound}
use Rattle.vma_tlsf.specs.Block.{Block, is_sound, taken}
use Rattle.vma_tlsf.specs.Inner.Chain.{seen, taken_in, taken_here}
use Rattle.vma_tlsf.specs.Inner.Changes.{TakesMore, IsReleased}
use Rattle.vma_tlsf.specs.Inner.Fits.{IsBlock}
use Rattle.vma_tlsf.specs.Inner.Sound.{tested_sound}

pub all_none : (p : Taken → Bool) (xs : List Taken) → All (λ x. p x ≡ false) xs → list_any p xs ≡ false
all_none p [] all = refl
all_none p (x ∷ xs) all = rw (All-head (λ y. p y ≡ false) x xs all) (all_none p xs (All-tail (λ y. p y ≡ false) x xs all))

pub sound_tested : (size : ℕ) (ts : List Taken) → IsSound size ts → is_sound size ts ≡ true
sound_tested size [] sound = refl
sound_tested size (t ∷ ts) sound =
    let hit = λ (u : Taken). conflict t.kind t.start t.size u.kind u.start u.size in
    let none : list_any hit ts ≡ false = all_none hit ts (All-from_get_or (λ u. hit u ≡ false) ts t (λ i there. sound.apart 0 (suc i) t (omega arith) (omega arith))) in
    let rest : IsSound size ts = record {
      inside = All-tail (λ r. r.start + r.size ≤ size) t ts sound.inside;
      apart = λ i j d less there. sound.apart (suc i) (suc j) d (omega arith) (omega arith);
    } in
    and_from (nat_le (t.start + t.size) size && not (list_any hit ts)) (is_sound size ts)
    (and_from (nat_le (t.start + t.size) size) (not (list_any hit ts)) (le-leb (t.start + t.size) size (All-head (λ r. r.start + r.size ≤ size) t ts sound.inside)) (ap not none))
    (sound_tested size ts rest)

-- what is taken of a sound block is all that is said to be
pub taken_all : (b : Block) → is_sound b.size b.taken ≡ true → taken b ≡ b.taken
taken_all b sound = rw sound refl

pub put_sound : PuttingIsSound → (whole root : ℕ) (old new : List (Option Node)) (r : Request) (start : ℕ) → IsBlock whole root old → IsTrue (fits (taken_in old) r 0 whole start) → start % r.align ≡ 0 → TakesMore old new (taken_at start r) → IsBlock whole root new
put_sound law whole root old new r start block fit aligned more = record {
  bound = block.bound;
  chain = more.chain whole root block.chain;
  sound = sound_tested whole (taken_in new) (law whole (taken_in old) (taken_in new) r start (tested_sound whole (taken_in old) block.sound) fit (record { aligned = aligned; added = more.more }));
}

pub free_sound : TakingAwayIsSound → (whole root : ℕ) (old new : List (Option Node)) (slot start : ℕ) (t : Taken) → IsBlock whole root old → IsReleased old new slot → taken_here (seen old slot) ≡ t ∷ [] → t.start ≡ start → IsBlock whole root new
free_sound law whole root old new slot start t block released one at = record {
  bound = block.bound;
  chain = released.chain whole root block.chain;
  sound = sound_tested whole (taken_in new) (law whole (taken_in old) (taken_in new) start (tested_sound whole (taken_in old) block.sound) (t, at, released.less t one));
}
