-- A byte that is dirty was written by the host, and no flush reached it since.
use Rattle.std.proofs.Common.{◌≡◌, ℕ, suc, ◌≤◌, List, [], ◌∷◌, ◌++◌, length, Bool, true, false, IsTrue, Option, Some, None, refl, ap, sym, ◌∙◌, subst, arith}
use Rattle.std.specs.Prelude.{if◌then◌else◌}
use Rattle.std.specs.List.{fold}
use Rattle.vk_model.specs.declared.entry.Entry.{Entry}
use Rattle.vk_model.specs.declared.entry.Entry.TheVariants as entry
use Rattle.vk_model.specs.declared.command.Cmd.{Cmd}
use Rattle.vk_model.specs.declared.command.Length.{Length}
use Rattle.vk_model.specs.declared.command.Element.{Element}
use Rattle.vk_model.specs.declared.command.Element.TheVariants as element
use Rattle.vk_model.specs.declared.command.BufferElement.{BufferElement}
use Rattle.vk_model.specs.declared.command.ImageElement.{ImageElement}
use Rattle.vk_model.specs.World.Bytes.{Byte, World}
use Rattle.vk_model.specs.Trace.Objects.{is_exclusive, is_cached}
use Rattle.vk_model.specs.Trace.Point.{Past, Point, Action, Host, Wait, Run, Signal}
use Rattle.vk_model.specs.World.Ownership.{family_of, uses, elements_of, transfer, Transfer, Stays, Release, Acquire, Neither, is_transition}
use Rattle.vk_model.specs.World.ByteWrites.{byte_writes}
use Rattle.vk_model.specs.World.Effect.{after_writes, used, transitioned, after_buffer_element, after_image_element, after_element, after_command, after_host, after_action, written, reaches, world}
use Rattle.vk_model.specs.Sync.Node.{nodes}
use Rattle.vk_model.specs.Rules.Fault.{Comes, newest, older}
use Rattle.vk_laws.proofs.Nodes.Counts.{more_nodes}

-- ---- commands make nothing dirty

used_dirty : (past : Past) (f r : ℕ) (w : World) → (used past f r w).dirty ≡ w.dirty
used_dirty past f r w = go (is_exclusive past r) refl
  where
    go : (a : Bool) → is_exclusive past r ≡ a → (used past f r w).dirty ≡ w.dirty
    go true e = rw e refl
    go false e = rw e refl

transitioned_dirty : (e : ImageElement) (w : World) → (transitioned e w).dirty ≡ w.dirty
transitioned_dirty e w = go (is_transition e) refl
  where
    go : (a : Bool) → is_transition e ≡ a → (transitioned e w).dirty ≡ w.dirty
    go true i = rw i refl
    go false i = rw i refl

buffer_dirty : (past : Past) (f : ℕ) (e : BufferElement) (t : Transfer) (w : World) → (after_buffer_element past f e t w).dirty ≡ w.dirty
buffer_dirty past f e Release w = used_dirty past f e.buffer w
buffer_dirty past f e Acquire w = refl
buffer_dirty past f e Stays w = refl
buffer_dirty past f e Neither w = refl

image_dirty : (past : Past) (f : ℕ) (e : ImageElement) (t : Transfer) (w : World) → (after_image_element past f e t w).dirty ≡ w.dirty
image_dirty past f e Stays w = go (is_transition e)
  where
    go : (a : Bool) → (if a then transitioned e (used past f e.image w) else w).dirty ≡ w.dirty
    go true = transitioned_dirty e (used past f e.image w) ∙ used_dirty past f e.image w
    go false = refl
image_dirty past f e Release w = used_dirty past f e.image w
image_dirty past f e Acquire w = transitioned_dirty e w
image_dirty past f e Neither w = refl

element_dirty : (past : Past) (f : ℕ) (w : World) (e : Element) → (after_element past f w e).dirty ≡ w.dirty
element_dirty past f w (element.Memory d) = refl
element_dirty past f w (element.Buffer e) = buffer_dirty past f e (transfer f e.families) w
element_dirty past f w (element.Image e) = image_dirty past f e (transfer f e.families) w

fold_dirty : {X : Type 0} (f : World → X → World) → ((w : World) (x : X) → (f w x).dirty ≡ w.dirty) → (xs : List X) (w : World) → (fold f w xs).dirty ≡ w.dirty
fold_dirty f step [] w = refl
fold_dirty f step (x ∷ xs) w = fold_dirty f step xs (f w x) ∙ step w x

pub command_dirty : (past : Past) (f : ℕ) (x : Cmd) (w : World) → (after_command past f x w).dirty ≡ w.dirty
command_dirty past f x w =
    let ready : World = fold (λ v r. used past f r v) w (uses x) in
    fold_dirty (after_element past f) (element_dirty past f) (elements_of x) (record ready { value = after_writes (byte_writes past x) ready.value })
    ∙ fold_dirty (λ v r. used past f r v) (λ v r. used_dirty past f r v) (uses x) w

-- ---- the write that makes a byte dirty

pub record DirtiedBy (past : Past) (c : Byte) : Type 0 where
  pub newer : Past
  pub at : Point
  pub low : Past
  pub whole : past ≡ newer ++ at ∷ low
  pub buffer : ℕ
  pub offset : ℕ
  pub bytes : List ℕ
  pub value : ℕ
  pub action : at.action ≡ Host (entry.Write buffer offset bytes)
  pub is : written buffer offset bytes c ≡ Some value
  pub cached : is_cached low buffer ≡ true
  pub unflushed : (before : Past) (q : Point) → Comes past before q → length (nodes (at ∷ low)) ≤ length (nodes before) → (b o : ℕ) (n : Length) → q.action ≡ Host (entry.Flush b o n) → IsTrue (reaches b o n c) → is_cached before b ≡ false

-- one more point that doesn't flush the byte
module _ (c : Byte) (p : Point) (past : Past) where
  abbrev Quiet : Type 0
  Quiet = (b o : ℕ) (n : Length) → p.action ≡ Host (entry.Flush b o n) → IsTrue (reaches b o n c) → is_cached past b ≡ false

  also : Quiet → DirtiedBy past c → DirtiedBy (p ∷ past) c
  also quiet m = record {
    newer = p ∷ m.newer;
    at = m.at;
    low = m.low;
    whole = ap (λ (l : Past). p ∷ l) m.whole;
    buffer = m.buffer;
    offset = m.offset;
    bytes = m.bytes;
    value = m.value;
    action = m.action;
    is = m.is;
    cached = m.cached;
    unflushed = λ before q comes le b o n d r. by_place before q comes le b o n d r;
  }
    where
      by_place : (before : Past) (q : Point) → Comes (p ∷ past) before q → length (nodes (m.at ∷ m.low)) ≤ length (nodes before) → (b o : ℕ) (n : Length) → q.action ≡ Host (entry.Flush b o n) → IsTrue (reaches b o n c) → is_cached before b ≡ false
      by_place before q newest le b o n d r = quiet b o n d r
      by_place before q (older h) le b o n d r = m.unflushed before q h le b o n d r

  here : (b o : ℕ) (bytes : List ℕ) (v : ℕ) → p.action ≡ Host (entry.Write b o bytes) → written b o bytes c ≡ Some v → is_cached past b ≡ true → DirtiedBy (p ∷ past) c
  here b o bytes v action is cached = record {
    newer = [];
    at = p;
    low = past;
    whole = refl;
    buffer = b;
    offset = o;
    bytes = bytes;
    value = v;
    action = action;
    is = is;
    cached = cached;
    unflushed = λ before q comes le. absurd (too_long before q comes le);
  }
    where
      low : (past before : Past) (q : Point) → Comes past before q → length (nodes before) ≤ length (nodes past)
      low _ before q (newest {past = past}) = more_nodes (q ∷ []) before
      low _ before q (older {past = past} {q = r} h) = let le = low past before q h in let more = more_nodes (r ∷ []) past in omega arith

      too_long : (before : Past) (q : Point) → Comes (p ∷ past) before q → length (nodes (p ∷ past)) ≤ length (nodes before) → ⊥
      too_long before q h le = wrong before q h le
        where
          one_more : length (nodes (p ∷ past)) ≡ suc (length (nodes past))
          one_more = rw action refl

          wrong : (before : Past) (q : Point) → Comes (p ∷ past) before q → length (nodes (p ∷ past)) ≤ length (nodes before) → ⊥
          wrong before q newest le = omega (arith, one_more, le)
          wrong before q (older h) le = let l = low past before q h in omega (arith, one_more, le, l)

  host_dirty : (x : Entry) → p.action ≡ Host x → (IsTrue ((world past).dirty c) → DirtiedBy past c) → IsTrue ((after_host past x (world past)).dirty c) → DirtiedBy (p ∷ past) c
  host_dirty (entry.Write b o bytes) d rest h = go (written b o bytes c) refl h
    where
      go : (w : Option ℕ) → written b o bytes c ≡ w → IsTrue (elim w [ None ↦ (world past).dirty c | Some n ↦ is_cached past b ]) → DirtiedBy (p ∷ past) c
      go None e h = also (λ b o n f r. let g = sym d ∙ f in absurd cc) (rest h)
      go (Some v) e h = here b o bytes v d e h
  host_dirty (entry.Flush b o n) d rest h = go (is_cached past b) (reaches b o n c) refl refl h
    where
      same : (b' o' : ℕ) (n' : Length) → p.action ≡ Host (entry.Flush b' o' n') → (b ≡ b') × (o ≡ o') × (n ≡ n')
      same b' o' n' f = let g : Host (entry.Flush b o n) ≡ Host (entry.Flush b' o' n') = sym d ∙ f in (cc, cc, cc)

      go : (a r : Bool) → is_cached past b ≡ a → reaches b o n c ≡ r → IsTrue ((after_host past (entry.Flush b o n) (world past)).dirty c) → DirtiedBy (p ∷ past) c
      go true true e f h = absurd (let g : false ≡ true = rw (e, f) at h in cc)
      go true false e f h = also (λ b' o' n' g r. let s = same b' o' n' g in let r' : reaches b o n c ≡ true = rw (s.0, s.1, s.2) r in absurd cc) (rest (rw (e, f) at h))
      go false r e f h = also (λ b' o' n' g r. let s = same b' o' n' g in rw (← s.0) e) (rest (rw e at h))
  host_dirty (entry.Invalidate b o n) d rest h = go (is_cached past b) (reaches b o n c) refl refl h
    where
      go : (a r : Bool) → is_cached past b ≡ a → reaches b o n c ≡ r → IsTrue ((after_host past (entry.Invalidate b o n) (world past)).dirty c) → DirtiedBy (p ∷ past) c
      go true true e f h = absurd (let g : false ≡ true = rw (e, f) at h in cc)
      go true false e f h = also (λ b o n g r. let k = sym d ∙ g in absurd cc) (rest (rw (e, f) at h))
      go false r e f h = also (λ b o n g r. let k = sym d ∙ g in absurd cc) (rest (rw e at h))
  host_dirty _ d rest h = also (λ b o n f r. let g = sym d ∙ f in absurd cc) (rest h)

pub dirtied_by : (past : Past) (c : Byte) → IsTrue ((world past).dirty c) → DirtiedBy past c
dirtied_by [] c h = absurd cc
dirtied_by (p ∷ past) c h = go p.action refl (dirtied_by past c) h
  where
    go : (d : Action) → p.action ≡ d → (IsTrue ((world past).dirty c) → DirtiedBy past c) → IsTrue ((after_action past p.queue d (world past)).dirty c) → DirtiedBy (p ∷ past) c
    go (Host x) e rest h = host_dirty c p past x e rest h
    go (Run x) e rest h = also c p past (λ b o n f r. let g = sym e ∙ f in absurd cc) (rest (subst (λ (m : Byte → Bool). IsTrue (m c)) (command_dirty past (family_of p.queue) x (world past)) h))
    go (Wait s) e rest h = also c p past (λ b o n f r. let g = sym e ∙ f in absurd cc) (rest h)
    go (Signal s) e rest h = also c p past (λ b o n f r. let g = sym e ∙ f in absurd cc) (rest h)
