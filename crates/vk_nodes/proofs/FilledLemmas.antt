-- What holds of slots in a store after each step.
use Rattle.std.proofs.Common.{◌≡◌, ℕ, suc, ◌+◌, ◌-◌, ◌<◌, ◌≤◌, ◌^◌, List, [], ◌∷◌, ◌++◌, length, get_or, set, take, replicate, Option, None, Some, is_some, refl, sym, ap, subst, ◌∙◌, arith, length-append}
use Rattle.std.proofs.lemmas.List.{length-set, length-replicate}
use Rattle.vk_nodes.specs.declared.node.Node.{Node}
use Rattle.vk_nodes.specs.declared.filled.Filled.TheInside.{Inside}
use Rattle.vk_nodes.specs.declared.change.Change.{Change}
use Rattle.vk_nodes.specs.Changes.{changed, IsChanged}
use Rattle.vk_nodes.specs.Slots.{IsHeld, AllHeld, Hands, free_count, empty_node}
use Rattle.vk_nodes.specs.Inner.Columns.{Columns}
use Rattle.vk_nodes.specs.Inner.FreeStack.{IsFreeStack}
use Rattle.vk_nodes.specs.Inner.IsFilled.{IsFilled, slots_seen}
use Rattle.vk_nodes.proofs.SlotLemmas.{free_count-le, free_count-held, all-held}
use Rattle.vk_nodes.proofs.StackLemmas.{pops, pushes, keeps, grows, lengthens, moved, take-set, take-next, get_or-taken, length-taken, seen-held, seen-below, seen-get, seen-set, length-seen, seen-next, seen-free, seen-count, seen-more, taken-longer}

abbrev no_node : Option Node
no_node = None

module _ (f : Inside) (now : List (Option Node)) (view : slots_seen f.used f.slots f.store.nodes ≡ now) (i : IsFilled f) where
  abbrev U : List (Option Node)
  U = take f.used f.store.nodes

  within : f.used ≤ length f.store.nodes
  within = omega (arith, i.used, i.slots)

  long : length U ≡ f.used
  long = length-taken f.used f.slots f.store.nodes within

  pub free-within : f.free ≤ f.used
  free-within = omega (arith, i.stack.count, free_count-le U, long)

  in_taken : (k : ℕ) → k < f.used → get_or U k None ≡ get_or f.store.nodes k None
  in_taken k lt = get_or-taken f.used f.store.nodes k lt within

  held : (k : ℕ) → IsHeld now k → IsHeld (slots_seen f.used f.slots f.store.nodes) k
  held k h = subst (λ (l : List (Option Node)). IsHeld l k) (sym view) h

  pub held-used : (k : ℕ) → IsHeld now k → k < f.used
  held-used k h = seen-below f.used f.slots f.store.nodes within k (held k h)

  -- the store has the node of a slot that is held
  pub store-get : (k : ℕ) → IsHeld now k → get_or f.store.nodes k None ≡ get_or now k None
  store-get k h = sym (seen-get f.used f.slots f.store.nodes within k (held-used k h)) ∙ ap (λ (l : List (Option Node)). get_or l k None) view

  -- another node is put in a slot
  module _ (new : Columns) (k : ℕ) (n : Node) (h : IsHeld now k) (is : new.nodes ≡ set f.store.nodes k (Some n)) (names : new.names ≡ f.store.names) where
    pub set-filled : IsFilled (record f { store = new })
    set-filled =
        let size : length new.nodes ≡ length f.store.nodes = ap (λ (l : List (Option Node)). length l) is ∙ length-set f.store.nodes k (Some n) in
        let size' : length new.names ≡ length f.store.names = ap (λ (l : List ℕ). length l) names in
        let taken : set U k (Some n) ≡ take f.used new.nodes = sym (take-set f.used f.store.nodes k (Some n) (held-used k h)) ∙ ap (λ (l : List (Option Node)). take f.used l) (sym is) in
        record {
          long = omega (arith, size, size', i.long);
          used = i.used;
          slots = omega (arith, size, i.slots);
          few = omega (arith, size, i.few);
          stack = moved (sym names) refl taken (keeps f.store.names f.free U k n (seen-held f.used f.slots f.store.nodes within k (held k h)) i.stack);
        }

    pub set-seen : slots_seen f.used f.slots new.nodes ≡ set now k (Some n)
    set-seen = ap (λ (l : List (Option Node)). slots_seen f.used f.slots l) is ∙ seen-set f.used f.slots f.store.nodes within k (Some n) (held-used k h) ∙ ap (λ (l : List (Option Node)). set l k (Some n)) view

  -- no node is changed
  module _ (new : Columns) (is : new.nodes ≡ f.store.nodes) (names : new.names ≡ f.store.names) where
    same-filled : IsFilled (record f { store = new })
    same-filled =
        let size : length new.nodes ≡ length f.store.nodes = ap (λ (l : List (Option Node)). length l) is in
        let size' : length new.names ≡ length f.store.names = ap (λ (l : List ℕ). length l) names in
        record {
          long = omega (arith, size, size', i.long);
          used = i.used;
          slots = omega (arith, size, i.slots);
          few = omega (arith, size, i.few);
          stack = moved (sym names) refl (ap (λ (l : List (Option Node)). take f.used l) (sym is)) i.stack;
        }

  -- a node is changed, if one is held
  module _ (new : Columns) (k : ℕ) (change : Change) (low : k < f.used) (made : IsChanged f.store.nodes new.nodes k change) (kept : get_or f.store.nodes k None ≡ None → new.nodes ≡ f.store.nodes) (names : new.names ≡ f.store.names) where
    stored : get_or f.store.nodes k None ≡ get_or now k None
    stored = sym (seen-get f.used f.slots f.store.nodes within k low) ∙ ap (λ (l : List (Option Node)). get_or l k None) view

    pub changed-filled : IsFilled (record f { store = new })
    changed-filled = cases (get_or now k None) refl
      where
        cases : (x : Option Node) → get_or now k None ≡ x → IsFilled (record f { store = new })
        cases None e = same-filled new (kept (stored ∙ e)) names
        cases (Some n) e = set-filled new k (changed n change) (ap is_some e) (made n (stored ∙ e)) names

    pub changed-seen : IsChanged now (slots_seen f.used f.slots new.nodes) k change
    changed-seen n e = set-seen new k (changed n change) (ap is_some e) (made n (stored ∙ e)) names

  -- the slot on top of the stack is taken
  module _ (some : 0 < f.free) where
    last : suc (f.free - 1) ≡ f.free
    last = omega (arith, some)

    top : IsFreeStack f.store.names (suc (f.free - 1)) U
    top = moved refl (sym last) refl i.stack

    less : f.free - 1 < suc (f.free - 1)
    less = omega arith

    pub pop-room : f.free - 1 < length f.store.nodes
    pop-room = omega (arith, some, free-within, within)

    module _ (new : Columns) (k : ℕ) (n : Node) (named : k ≡ get_or f.store.names (f.free - 1) 0) (is : new.nodes ≡ set f.store.nodes k (Some n)) (names : new.names ≡ f.store.names) where
      low : k < f.used
      low = omega (arith, named, top.inside (f.free - 1) less, long)

      pub pop-filled : IsFilled (record f { store = new; free = f.free - 1 })
      pop-filled =
          let size : length new.nodes ≡ length f.store.nodes = ap (λ (l : List (Option Node)). length l) is ∙ length-set f.store.nodes k (Some n) in
          let size' : length new.names ≡ length f.store.names = ap (λ (l : List ℕ). length l) names in
          let taken : set U (get_or f.store.names (f.free - 1) 0) (Some n) ≡ take f.used new.nodes = ap (λ (j : ℕ). set U j (Some n)) (sym named) ∙ sym (take-set f.used f.store.nodes k (Some n) low) ∙ ap (λ (l : List (Option Node)). take f.used l) (sym is) in
          record {
            long = omega (arith, size, size', i.long);
            used = i.used;
            slots = omega (arith, size, i.slots);
            few = omega (arith, size, i.few);
            stack = moved (sym names) refl taken (pops f.store.names (f.free - 1) U n top);
          }

      pub pop-hands : n ≡ empty_node → Hands now (slots_seen f.used f.slots new.nodes) k
      pop-hands empty =
          let free : get_or U k None ≡ None = ap (λ (j : ℕ). get_or U j None) named ∙ top.is_free (f.free - 1) less in
          record {
            inside = omega (arith, low, i.used, length-seen f.used f.slots f.store.nodes within i.used, ap (λ (l : List (Option Node)). length l) view);
            was_free = ap (λ (l : List (Option Node)). get_or l k None) (sym view) ∙ seen-get f.used f.slots f.store.nodes within k low ∙ sym (in_taken k low) ∙ free;
            held = ap (λ (l : List (Option Node)). slots_seen f.used f.slots l) is ∙ seen-set f.used f.slots f.store.nodes within k (Some n) low ∙ ap (λ (l : List (Option Node)). set l k (Some n)) view ∙ ap (λ (m : Node). set now k (Some m)) empty;
          }

  -- a slot is used that wasn't before
  module _ (more : f.used < f.slots) (new : Columns) (n : Node) (is : new.nodes ≡ set f.store.nodes f.used (Some n)) (names : new.names ≡ f.store.names) where
    room : f.used < length f.store.nodes
    room = omega (arith, more, i.slots)

    next : f.used + 1 ≡ suc f.used
    next = omega arith

    pub next-filled : IsFilled (record f { store = new; used = f.used + 1 })
    next-filled =
        let size : length new.nodes ≡ length f.store.nodes = ap (λ (l : List (Option Node)). length l) is ∙ length-set f.store.nodes f.used (Some n) in
        let size' : length new.names ≡ length f.store.names = ap (λ (l : List ℕ). length l) names in
        let taken : U ++ Some n ∷ [] ≡ take (f.used + 1) new.nodes = sym (take-next f.used f.store.nodes (Some n) room) ∙ ap (λ (l : List (Option Node)). take (suc f.used) l) (sym is) ∙ ap (λ (j : ℕ). take j new.nodes) (sym next) in
        record {
          long = omega (arith, size, size', i.long);
          used = omega (arith, more);
          slots = omega (arith, size, i.slots);
          few = omega (arith, size, i.few);
          stack = moved (sym names) refl taken (grows f.store.names f.free U n i.stack);
        }

    pub next-hands : n ≡ empty_node → Hands now (slots_seen (f.used + 1) f.slots new.nodes) f.used
    next-hands empty =
        record {
          inside = omega (arith, more, length-seen f.used f.slots f.store.nodes within i.used, ap (λ (l : List (Option Node)). length l) view);
          was_free = ap (λ (l : List (Option Node)). get_or l f.used None) (sym view) ∙ seen-free f.used f.slots f.store.nodes within;
          held =
              ap (λ (l : List (Option Node)). slots_seen (f.used + 1) f.slots l) is
              ∙ ap (λ (j : ℕ). slots_seen j f.slots (set f.store.nodes f.used (Some n))) next
              ∙ seen-next f.used f.slots f.store.nodes within (Some n) more room
              ∙ ap (λ (l : List (Option Node)). set l f.used (Some n)) view
              ∙ ap (λ (m : Node). set now f.used (Some m)) empty;
        }

  -- no slot is free
  pub none-left : f.free ≡ 0 → f.slots ≤ f.used → AllHeld now
  none-left none all =
      let e : free_count (slots_seen f.used f.slots f.store.nodes) ≡ 0 = omega (arith, seen-count f.used f.slots f.store.nodes within f.store.names f.free i.stack, none, all) in
      subst (λ (l : List (Option Node)). AllHeld l) view (all-held (slots_seen f.used f.slots f.store.nodes) e)

  pub count-slots : length now ≡ f.slots
  count-slots = ap (λ (l : List (Option Node)). length l) (sym view) ∙ length-seen f.used f.slots f.store.nodes within i.used

  pub counted : f.free + (f.slots - f.used) ≡ free_count now
  counted = sym (seen-count f.used f.slots f.store.nodes within f.store.names f.free i.stack) ∙ ap (λ (l : List (Option Node)). free_count l) view

  -- a slot is freed
  module _ (k : ℕ) (h : IsHeld now k) where
    pub push-room : f.free < length f.store.names
    push-room = omega (arith, i.stack.count, free_count-held U k (seen-held f.used f.slots f.store.nodes within k (held k h)), long, within, i.long)

    pub freed-room : (freed : List (Option Node)) → freed ≡ set f.store.nodes k None → f.free < length freed
    freed-room freed is = omega (arith, push-room, i.long, length-set f.store.nodes k None, ap (λ (l : List (Option Node)). length l) is)

    module _ (mid new : Columns) (is : mid.nodes ≡ set f.store.nodes k None) (names : mid.names ≡ f.store.names) (is' : new.nodes ≡ mid.nodes) (names' : new.names ≡ set mid.names f.free k) where
      pub push-filled : IsFilled (record f { store = new; free = f.free + 1 })
      push-filled =
          let size : length new.nodes ≡ length f.store.nodes = ap (λ (l : List (Option Node)). length l) (is' ∙ is) ∙ length-set f.store.nodes k None in
          let pushed : new.names ≡ set f.store.names f.free k = names' ∙ ap (λ (l : List ℕ). set l f.free k) names in
          let size' : length new.names ≡ length f.store.names = ap (λ (l : List ℕ). length l) pushed ∙ length-set f.store.names f.free k in
          let taken : set U k None ≡ take f.used new.nodes = sym (take-set f.used f.store.nodes k None (held-used k h)) ∙ ap (λ (l : List (Option Node)). take f.used l) (sym (is' ∙ is)) in
          record {
            long = omega (arith, size, size', i.long);
            used = i.used;
            slots = omega (arith, size, i.slots);
            few = omega (arith, size, i.few);
            stack = moved (sym pushed) (omega arith) taken (pushes f.store.names f.free U k (seen-held f.used f.slots f.store.nodes within k (held k h)) push-room i.stack);
          }

      pub push-seen : slots_seen f.used f.slots new.nodes ≡ set now k None
      push-seen = ap (λ (l : List (Option Node)). slots_seen f.used f.slots l) (is' ∙ is) ∙ seen-set f.used f.slots f.store.nodes within k None (held-used k h) ∙ ap (λ (l : List (Option Node)). set l k None) view

  -- there are more slots
  module _ (more : ℕ) where
    pub more-filled : f.slots + more ≤ length f.store.nodes → IsFilled (record f { slots = f.slots + more })
    more-filled room = record { long = i.long; used = omega (arith, i.used); slots = room; few = i.few; stack = i.stack }

    pub more-seen : slots_seen f.used (f.slots + more) f.store.nodes ≡ now ++ replicate more None
    more-seen = seen-more f.used f.slots f.store.nodes within more i.used ∙ ap (λ (l : List (Option Node)). l ++ replicate more None) view

    module _ (new : Columns) (size : ℕ) (rest : List (Option Node)) (others : List ℕ) (long' : length rest ≡ length others) (is : new.nodes ≡ f.store.nodes ++ rest) (names : new.names ≡ f.store.names ++ others) where
      pub longer-filled : f.slots + more ≤ length f.store.nodes + length rest → length f.store.nodes + length rest < 2 ^ 32 → IsFilled (record f { store = new; slots = f.slots + more })
      longer-filled room few =
          let size : length new.nodes ≡ length f.store.nodes + length rest = ap (λ (l : List (Option Node)). length l) is ∙ length-append f.store.nodes rest in
          let size' : length new.names ≡ length f.store.names + length others = ap (λ (l : List ℕ). length l) names ∙ length-append f.store.names others in
          let taken : U ≡ take f.used new.nodes = sym (taken-longer f.used f.slots f.store.nodes within rest) ∙ ap (λ (l : List (Option Node)). take f.used l) (sym is) in
          record {
            long = omega (arith, size, size', long', i.long);
            used = omega (arith, i.used);
            slots = omega (arith, size, room);
            few = omega (arith, size, few);
            stack = moved (sym names) refl taken (lengthens f.store.names f.free U others (omega (arith, long, within, i.long)) i.stack);
          }

      pub longer-seen : slots_seen f.used (f.slots + more) new.nodes ≡ now ++ replicate more None
      longer-seen =
          ap (λ (l : List (Option Node)). slots_seen f.used (f.slots + more) l) is
          ∙ ap (λ (l : List (Option Node)). l ++ replicate (f.slots + more - f.used) None) (taken-longer f.used f.slots f.store.nodes within rest)
          ∙ more-seen

    -- the same of the fields g that the code comes to
    pub kept-filled : (g : Inside) → g ≡ f → f.slots + more ≤ length f.store.nodes → IsFilled (record g { slots = f.slots + more })
    kept-filled g is room = subst (λ (h : Inside). IsFilled (record h { slots = f.slots + more })) (sym is) (more-filled room)

    pub kept-seen : (g : Inside) → g ≡ f → slots_seen g.used (f.slots + more) g.store.nodes ≡ now ++ replicate more None
    kept-seen g is = ap (λ (h : Inside). slots_seen h.used (f.slots + more) h.store.nodes) is ∙ more-seen

    module _ (new : Columns) (size : ℕ) (g : Inside) (g_is : g ≡ record f { store = new }) (nodes : new.nodes ≡ f.store.nodes ++ replicate (size - length f.store.nodes) None) (names : new.names ≡ f.store.names ++ replicate (size - length f.store.nodes) 0) where
      same : length (replicate (size - length f.store.nodes) no_node) ≡ length {A = ℕ} (replicate (size - length f.store.nodes) 0)
      same = length-replicate (size - length f.store.nodes) no_node ∙ (let last : ℕ = 0 in sym (length-replicate (size - length f.store.nodes) last))

      pub grown-filled : length f.store.nodes ≤ size → f.slots + more ≤ size → size < 2 ^ 32 → IsFilled (record g { slots = f.slots + more })
      grown-filled le room few =
          let e : length (replicate (size - length f.store.nodes) no_node) ≡ size - length f.store.nodes = length-replicate (size - length f.store.nodes) no_node in
          subst (λ (h : Inside). IsFilled (record h { slots = f.slots + more })) (sym g_is)
          (longer-filled new size (replicate (size - length f.store.nodes) None) (replicate (size - length f.store.nodes) 0) same nodes names (omega (arith, e, le, room)) (omega (arith, e, le, few)))

      pub grown-seen : slots_seen g.used (f.slots + more) g.store.nodes ≡ now ++ replicate more None
      grown-seen =
          ap (λ (h : Inside). slots_seen h.used (f.slots + more) h.store.nodes) g_is
          ∙ longer-seen new size (replicate (size - length f.store.nodes) None) (replicate (size - length f.store.nodes) 0) same nodes names
