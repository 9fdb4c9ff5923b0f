-- A linear block as a suballocator is seen: its ranges are sound, and they change as they should.
use Rattle.std.proofs.Common.{◌≡◌, ℕ, ◌+◌, ◌<◌, ◌≤◌, List, [], ◌∷◌, true, false, not, refl, ap, sym, subst, ◌∙◌}
use Rattle.std.specs.Prelude.{Some, Result, Ok, Err, IfOk, All, AllPairs, if◌then◌else◌}
use Rattle.std.specs.List.{list_all, list_any}
use Rattle.std.proofs.lemmas.List.Elements.{All-head, All-tail, All-contains}
use Rattle.std.proofs.lemmas.Bool.{and_from, or_from, le-leb, not_from_false}
use Rattle.vk_model.specs.Basics.{some_pair}
use Rattle.vk_model.specs.Memory.Suballocation.{Taken, Request, IsApart, Puts, IsTakenAt, TakesAway, IsLargestFree}
use Rattle.vk_model.specs.Memory.Room.{Linear, all_taken, lower_place}
use Rattle.vk_model.specs.Memory.LinearBlocks.{IsLinearBlock, after_lower, after_free}
use Rattle.vk_model.specs.declared.suballoc.SubFault.{SubFault}
use Rattle.vk_model.proofs.Memory.LinearBlocks.{linear_stays, linear_takes}
use Rattle.vk_model.proofs.Memory.Freeing.{linear_frees}
use Rattle.vk_model.proofs.Memory.AllPairs.{pairs_first, pairs_rest}
use Rattle.vk_model.proofs.Lists.Members.{none_passes_any}
use Rattle.vma_linear.specs.SoundRanges.{are_sound, sound_taken, ends_in, meets}

in_all : (size : ℕ) (ts : List Taken) → All (λ t. t.start + t.size ≤ size) ts → list_all (ends_in size) ts ≡ true
in_all size [] all = refl
in_all size (t ∷ ts) all =
    and_from (ends_in size t) (list_all (ends_in size) ts) (le-leb (t.start + t.size) size (All-head (λ u. u.start + u.size ≤ size) t ts all))
    (in_all size ts (All-tail (λ u. u.start + u.size ≤ size) t ts all))

pair_none : (ts : List Taken) → AllPairs IsApart ts → some_pair meets ts ≡ false
pair_none [] pairs = refl
pair_none (t ∷ ts) pairs =
    or_from (list_any (meets t) ts) (some_pair meets ts)
    (none_passes_any (meets t) ts (λ u in_it. All-contains (IsApart t) ts u (pairs_first IsApart t ts pairs) in_it)) (pair_none ts (pairs_rest IsApart t ts pairs))

pub all_sound : (b : Linear) → IsLinearBlock b → sound_taken b ≡ all_taken b
all_sound b h =
    let e : are_sound b.size (all_taken b) ≡ true =
    and_from (list_all (ends_in b.size) (all_taken b)) (not (some_pair meets (all_taken b))) (in_all b.size (all_taken b) h.sound.inside) (not_from_false (some_pair meets (all_taken b)) (pair_none (all_taken b) h.sound.apart)) in
    ap (λ c. if c then all_taken b else []) e

-- ---- taking and giving back

taken_sound : (b new : Linear) (r : Request) (start : ℕ) → IsLinearBlock b → 0 < r.size → lower_place b r ≡ Some start → new ≡ after_lower b r → Puts (sound_taken b) (sound_taken new) r start
taken_sound b new r start h some place is =
    let puts = (linear_takes.lower b r h).taken start place in
    let new_block : IsLinearBlock new = subst IsLinearBlock (sym is) (linear_stays.lower b r some h) in
    subst (λ ts. Puts ts (sound_taken new) r start) (sym (all_sound b h)) (subst (λ ts. Puts (all_taken b) ts r start) (sym (all_sound new new_block ∙ ap all_taken is)) puts)

pub answer_sound : (res : Result ℕ SubFault) (b new : Linear) (r : Request) → IsLinearBlock b → 0 < r.size
    → IfOk res (λ start. (lower_place b r ≡ Some start) × (new ≡ after_lower b r)) → IfOk res (λ start. Puts (sound_taken b) (sound_taken new) r start)
answer_sound (Ok start) b new r h some ok = taken_sound b new r start h some ok.0 ok.1
answer_sound (Err e) b new r h some ok = tt

pub free_sound : (b new : Linear) (start : ℕ) → IsLinearBlock b → IsTakenAt start (sound_taken b) → new ≡ after_free b start → TakesAway (sound_taken b) (sound_taken new) start
free_sound b new start h taken is =
    let away = linear_frees b start h (subst (IsTakenAt start) (all_sound b h) taken) in
    let new_block : IsLinearBlock new = subst IsLinearBlock (sym is) (linear_stays.freed b start h) in
    subst (λ ts. TakesAway ts (sound_taken new) start) (sym (all_sound b h)) (subst (λ ts. TakesAway (all_taken b) ts start) (sym (all_sound new new_block ∙ ap all_taken is)) away)

pub largest_sound : (b : Linear) (w : ℕ) → IsLinearBlock b → IsLargestFree b.size (all_taken b) w → IsLargestFree b.size (sound_taken b) w
largest_sound b w h is = subst (λ ts. IsLargestFree b.size ts w) (sym (all_sound b h)) is
