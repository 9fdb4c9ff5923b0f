-- Lists that are read item by item.
use Rattle.std.proofs.Common.{◌≡◌, ◌∙◌, ℕ, zero, suc, ◌+◌, ◌<◌, ◌≤◌, List, [], ◌∷◌, ◌++◌, length, take, get_or, map, Option, None, Some, sym, ap, subst, arith, append-nil, append_assoc}
use Rattle.std.specs.Prelude.{◌==◌, filter, All}
use Rattle.std.specs.Option.{option_to_list}
use Rattle.std.proofs.lemmas.List.{map-append}
use Rattle.std.proofs.lemmas.List.Elements.{All-push}
use Rattle.std.proofs.lemmas.Grind.{take_at_read, common_steps}
use Rattle.vk_memory.specs.declared.memories.Object.{Object}
use Rattle.vma_pools.specs.declared.views.BlockObject.{BlockObject}
use Rattle.vk_places.specs.declared.owners.Owned.{Owned}
use Rattle.vk_places.specs.declared.states.Taken.{Taken}
use Rattle.vk_places.specs.declared.states.LiveBlock.{LiveBlock}
use Rattle.vk_places.specs.declared.states.LiveObject.{LiveObject}
use Rattle.vk_places.specs.Listed.{object_in, objects_from, IsBlockOf, AreBlocksOf}

-- the first objects with one more
pub objects_more : (owners : List (ℕ × Owned)) (n i : ℕ) (os : List (Option Object)) → i < length os → objects_from owners n (take (i + 1) os) ≡ objects_from owners n (take i os) ++ option_to_list (object_in owners (n + i) (get_or os i None))
objects_more owners n i [] lt = absurd (omega (arith, lt))
objects_more owners n zero (o ∷ os) lt =
    append-nil (option_to_list (object_in owners n o)) ∙ ap (λ (m : ℕ). option_to_list (object_in owners m o)) (let e : n ≡ n + zero = omega arith in e)
objects_more owners n (suc i) (o ∷ os) lt =
    let more : suc i + 1 ≡ suc (i + 1) = omega arith in
    let at : n + 1 + i ≡ n + suc i = omega arith in
    let next = objects_more owners (n + 1) i os (omega (arith, lt)) ∙ ap (λ (m : ℕ). objects_from owners (n + 1) (take i os) ++ option_to_list (object_in owners m (get_or os i None))) at in
    let first = option_to_list (object_in owners n o) in
    rw more (ap (λ l. first ++ l) next ∙ sym (append_assoc first (objects_from owners (n + 1) (take i os)) (option_to_list (object_in owners (n + suc i) (get_or os i None)))))

-- and with what was pushed for it
pub objects_next : (owners : List (ℕ × Owned)) (i : ℕ) (os : List (Option Object)) (old new : List LiveObject) (o : Option LiveObject) → i < length os → old ≡ objects_from owners 0 (take i os) → o ≡ object_in owners i (get_or os i None) → new ≡ old ++ option_to_list o
    → new ≡ objects_from owners 0 (take (i + 1) os)
objects_next owners i os old new o lt before is pushed =
    let none : 0 + i ≡ i = omega arith in
    pushed ∙ ap (λ (l : List LiveObject). l ++ option_to_list o) before ∙ ap (λ (x : Option LiveObject). objects_from owners 0 (take i os) ++ option_to_list x) is
    ∙ sym (objects_more owners 0 i os lt ∙ ap (λ (m : ℕ). objects_from owners 0 (take i os) ++ option_to_list (object_in owners m (get_or os i None))) none)

-- all of them
pub objects_all : (owners : List (ℕ × Owned)) (i : ℕ) (os : List (Option Object)) (found : List LiveObject) → length os ≤ i → found ≡ objects_from owners 0 (take i os) → found ≡ objects_from owners 0 os
objects_all owners i os found done is = let whole : take i os ≡ os = grind (arith, common_steps) in is ∙ ap (λ (l : List (Option Object)). objects_from owners 0 l) whole

-- the first blocks with one more
pub blocks_more : (ranges : List Taken) (objects : List BlockObject) (i : ℕ) (d : BlockObject) (found : List LiveBlock) (one : LiveBlock) → i < length objects → AreBlocksOf ranges (take i objects) found → IsBlockOf ranges (get_or objects i d) one
    → AreBlocksOf ranges (take (i + 1) objects) (found ++ one ∷ [])
blocks_more ranges objects i d found one lt before new =
    let b = get_or objects i d in
    subst (λ (bs : List BlockObject). AreBlocksOf ranges bs (found ++ one ∷ [])) (sym (take_at_read objects i d lt).1)
    (record {
      numbers = map-append (λ (l : LiveBlock). l.number) found (one ∷ []) ∙ ap (λ (l : List ℕ). l ++ one.number ∷ []) before.numbers ∙ ap (λ (n : ℕ). map (λ (o : BlockObject). o.number) (take i objects) ++ n ∷ []) new.number
          ∙ sym (map-append (λ (o : BlockObject). o.number) (take i objects) (b ∷ []));
      objects_are = map-append (λ (l : LiveBlock). l.object) found (one ∷ []) ∙ ap (λ (l : List ℕ). l ++ one.object ∷ []) before.objects_are ∙ ap (λ (n : ℕ). map (λ (o : BlockObject). o.memory) (take i objects) ++ n ∷ []) new.object
          ∙ sym (map-append (λ (o : BlockObject). o.memory) (take i objects) (b ∷ []));
      taken = All-push (λ (l : LiveBlock). l.taken.items ≡ filter (λ (r : Taken). r.block == l.number) ranges) found one before.taken (new.taken ∙ ap (λ (n : ℕ). filter (λ (r : Taken). r.block == n) ranges) (sym new.number));
    })

-- all of them
pub blocks_all : (ranges : List Taken) (objects : List BlockObject) (i : ℕ) (found : List LiveBlock) → length objects ≤ i → AreBlocksOf ranges (take i objects) found → AreBlocksOf ranges objects found
blocks_all ranges objects i found done are = let whole : take i objects ≡ objects = grind (arith, common_steps) in subst (λ (bs : List BlockObject). AreBlocksOf ranges bs found) whole are
