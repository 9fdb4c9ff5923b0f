-- Lemmas on records of slots as two lists.
use Rattle.std.proofs.Common.{◌≡◌, ℕ, zero, suc, ◌-◌, List, [], ◌∷◌, ◌++◌, length, get_or, set, map, drop, replicate, Option, None, Some, Bool, true, false, cond, refl, sym, ap, ◌∙◌}
use Rattle.std.proofs.lemmas.List.{length-map, map-set, map-append, drop-replicate}
use Rattle.std.proofs.Math.Seq.{map-set_same}
use Rattle.std.proofs.Math.ListN.{get_or-map}
use Rattle.vk_nodes.specs.declared.node.Node.{Node}
use Rattle.vk_nodes.specs.declared.slot.Slot.{Slot}
use Rattle.vk_nodes.specs.declared.change.Change.{Change}
use Rattle.vk_nodes.specs.Changes.{changed}
use Rattle.vk_nodes.specs.Inner.Columns.{Columns, columns, seen, entry, empty_slot}

pub map-replicate : {A B : Type 0} (f : A → B) (n : ℕ) (a : A) → map f (replicate n a) ≡ replicate n (f a)
map-replicate f zero a = refl
map-replicate f (suc n) a = ap (λ l. f a ∷ l) (map-replicate f n a)

pub map-drop : {A B : Type 0} (f : A → B) (n : ℕ) (l : List A) → map f (drop n l) ≡ drop n (map f l)
map-drop f zero l = refl
map-drop f (suc n) [] = refl
map-drop f (suc n) (x ∷ l) = map-drop f n l

module _ (slots all : List Slot) (v : Columns) (view : columns slots ≡ v) (is : all ≡ slots) (k : ℕ) (x : Slot) where
  pub nodes-set : map seen (set all k x) ≡ set v.nodes k (seen x)
  nodes-set = map-set seen all k x ∙ ap (λ (l : List Slot). set (map seen l) k (seen x)) is ∙ ap (λ (w : Columns). set w.nodes k (seen x)) view

  pub names-set : map entry (set all k x) ≡ set v.names k (entry x)
  names-set = map-set entry all k x ∙ ap (λ (l : List Slot). set (map entry l) k (entry x)) is ∙ ap (λ (w : Columns). set w.names k (entry x)) view

  pub nodes-kept : seen x ≡ seen (get_or all k empty_slot) → map seen (set all k x) ≡ v.nodes
  nodes-kept e = map-set_same seen all k x empty_slot e ∙ ap (λ (l : List Slot). map seen l) is ∙ ap (λ (w : Columns). w.nodes) view

  pub names-kept : entry x ≡ entry (get_or all k empty_slot) → map entry (set all k x) ≡ v.names
  names-kept e = map-set_same entry all k x empty_slot e ∙ ap (λ (l : List Slot). map entry l) is ∙ ap (λ (w : Columns). w.names) view

-- a record that is seen to hold a node
seen_held : (x : Slot) (n : Node) → seen x ≡ Some n → (x.is_held ≡ true) × (x.node ≡ n)
seen_held x n h = cases x.is_held h
  where
    cases : (b : Bool) → cond b (Some x.node) None ≡ Some n → (b ≡ true) × (x.node ≡ n)
    cases true h = (refl, cc)
    cases false h = absurd cc

-- a record that is seen to hold none, with another node
hidden : (x : Slot) (m : Node) → seen x ≡ None → seen (record x { node = m }) ≡ seen x
hidden x m h = cases x.is_held refl h
  where
    cases : (b : Bool) → x.is_held ≡ b → cond b (Some x.node) None ≡ None → seen (record x { node = m }) ≡ seen x
    cases true e h = absurd cc
    cases false e h = rw e refl

-- a node is changed in its place
module _ (slots all : List Slot) (v : Columns) (view : columns slots ≡ v) (is : all ≡ slots) (k : ℕ) (change : Change) (m : Node) (applied : m ≡ changed (get_or all k empty_slot).node change) where
  abbrev x : Slot
  x = get_or all k empty_slot

  here : (o : Option Node) → get_or v.nodes k None ≡ o → seen x ≡ o
  here o there = sym (get_or-map seen all k empty_slot) ∙ ap (λ (l : List Slot). get_or (map seen l) k None) is ∙ ap (λ (w : Columns). get_or w.nodes k None) view ∙ there

  pub nodes-changed : (n : Node) → get_or v.nodes k None ≡ Some n → map seen (set all k (record x { node = m })) ≡ set v.nodes k (Some (changed n change))
  nodes-changed n there =
      let two = seen_held x n (here (Some n) there) in
      let new : cond x.is_held (Some m) None ≡ Some (changed n change) = rw two.0 (ap Some (applied ∙ ap (λ (z : Node). changed z change) two.1)) in
      nodes-set slots all v view is k (record x { node = m }) ∙ ap (λ (o : Option Node). set v.nodes k o) new

  pub nodes-unchanged : get_or v.nodes k None ≡ None → map seen (set all k (record x { node = m })) ≡ v.nodes
  nodes-unchanged none = nodes-kept slots all v view is k (record x { node = m }) (hidden x m (here None none))

module _ (slots : List Slot) (n : ℕ) (e : Slot) (is_empty : e ≡ empty_slot) (all : slots ≡ replicate n e) where
  pub nodes-new : map seen slots ≡ replicate n None
  nodes-new = ap (λ (l : List Slot). map seen l) all ∙ map-replicate seen n e ∙ ap (λ (x : Slot). replicate n (seen x)) is_empty

  pub names-new : map entry slots ≡ replicate n 0
  names-new = ap (λ (l : List Slot). map entry l) all ∙ map-replicate entry n e ∙ ap (λ (x : Slot). replicate n (entry x)) is_empty

-- records copied over the first of others
module _ (new some mid all : List Slot) (old : Columns) (view : columns all ≡ old) (from : mid ≡ all) (over : new ≡ some ++ drop (length some) mid) where
  is : new ≡ some ++ drop (length some) all
  is = over ∙ ap (λ (l : List Slot). some ++ drop (length some) l) from

  pub nodes-over : map seen new ≡ map seen some ++ drop (length some) old.nodes
  nodes-over = ap (λ (l : List Slot). map seen l) is ∙ map-append seen some (drop (length some) all) ∙ ap (λ (l : List (Option Node)). map seen some ++ l) (map-drop seen (length some) all ∙ ap (λ (w : Columns). drop (length some) w.nodes) view)

  pub names-over : map entry new ≡ map entry some ++ drop (length some) old.names
  names-over = ap (λ (l : List Slot). map entry l) is ∙ map-append entry some (drop (length some) all) ∙ ap (λ (l : List ℕ). map entry some ++ l) (map-drop entry (length some) all ∙ ap (λ (w : Columns). drop (length some) w.names) view)

-- records copied over the first of fresh ones
module _ (some all : List Slot) (old : Columns) (size : ℕ) (view : columns all ≡ old) (is : some ≡ all) where
  long : length some ≡ length old.nodes
  long = sym (length-map some seen) ∙ ap (λ (l : List Slot). length (map seen l)) is ∙ ap (λ (w : Columns). length w.nodes) view

  rest : {A : Type 0} (fresh : List A) (a : A) → fresh ≡ replicate size a → drop (length some) fresh ≡ replicate (size - length old.nodes) a
  rest fresh a e = ap (λ l. drop (length some) l) e ∙ drop-replicate (length some) size a ∙ ap (λ (n : ℕ). replicate (size - n) a) long

  pub nodes-longer : (fresh new : List (Option Node)) → fresh ≡ replicate size None → new ≡ map seen some ++ drop (length some) fresh → new ≡ old.nodes ++ replicate (size - length old.nodes) None
  nodes-longer fresh new e h =
      h ∙ ap (λ (l : List Slot). map seen l ++ drop (length some) fresh) is ∙ ap (λ (w : Columns). w.nodes ++ drop (length some) fresh) view ∙ ap (λ (l : List (Option Node)). old.nodes ++ l) (rest fresh None e)

  pub names-longer : (fresh new : List ℕ) → fresh ≡ replicate size 0 → new ≡ map entry some ++ drop (length some) fresh → new ≡ old.names ++ replicate (size - length old.nodes) 0
  names-longer fresh new e h =
      h ∙ ap (λ (l : List Slot). map entry l ++ drop (length some) fresh) is ∙ ap (λ (w : Columns). w.names ++ drop (length some) fresh) view ∙ ap (λ (l : List ℕ). old.names ++ l) (rest fresh 0 e)
