-- What is live was made and hasn't ended; what a host entry names is live when it comes.
use Rattle.std.proofs.Common.{◌≡◌, ℕ, [], ◌∷◌, Bool, true, false, ◌||◌, ◌==◌, IsTrue, refl, ap, sym, subst, Option, Some, None}
use Rattle.std.specs.Prelude.{Contains, is_some, option_and_then, if◌then◌else◌}
use Rattle.std.specs.List.{list_any, filter_map, cons_option}
use Rattle.std.proofs.lemmas.Bool.{eqb-true, or_left, or_right}
use Rattle.vk_model.specs.declared.entry.Entry.{Entry}
use Rattle.vk_model.specs.Basics.{holds, among}
use Rattle.vk_model.specs.Trace.Point.{Past, Point, Action, Host, host_of, entries}
use Rattle.vk_model.specs.Trace.Objects.{made, made_by, ended, ended_by, live, live_resources, resource_in}
use Rattle.vk_model.specs.Rules.Ids.{Asked, is_dead, is_resource, asked_by, asked_by_entry, breaks_live_id, lists_stray, until}
use Rattle.vk_model.specs.Rules.Fault.{Comes, newest, older}
use Rattle.vk_model.proofs.Lists.Members.{member_passes, found, chosen_has, filter_has}
use Rattle.vk_model.proofs.Lists.Truths.{unless}

-- ---- live objects

pub record IsAlive (past : Past) (i : ℕ) (kind : Entry → Bool) : Type 0 where
  pub object : Entry
  pub made_it : made past i ≡ Some object
  pub unended : ended past i ≡ false
  pub is_kind : IsTrue (kind object)

pub is_alive : (past : Past) (i : ℕ) (kind : Entry → Bool) → IsTrue (holds (live past i) kind) → IsAlive past i kind
is_alive past i kind h = go (ended past i) refl (made past i) refl h
  where
    go : (b : Bool) → ended past i ≡ b → (m : Option Entry) → made past i ≡ m → IsTrue (holds (if b then None else m) kind) → IsAlive past i kind
    go true e m f h = absurd cc
    go false e None f h = absurd cc
    go false e (Some x) f h = record { object = x; made_it = f; unended = e; is_kind = h }

-- a resource that is live is one of the live resources
pub among_live : (past : Past) (i : ℕ) → IsAlive past i is_resource → Contains (live_resources past) i
among_live past i a =
    let f = found (λ x. holds (made_by x) (λ j. i == j)) (entries past) a.object a.made_it in
    filter_has (λ i. is_some (option_and_then resource_in (live past i))) (filter_map made_by (entries past)) i
    (chosen_has made_by (entries past) a.object i f.0 (makes (made_by a.object) f.1))
    (rw (a.unended, a.made_it) a.is_kind)
  where
    makes : (o : Option ℕ) → IsTrue (holds o (λ j. i == j)) → o ≡ Some i
    makes None h = absurd cc
    makes (Some j) h = ap Some (sym (eqb-true i j h))

-- ---- what has ended

-- the host entry that ended an id
pub record Ending (past : Past) (i : ℕ) : Type 0 where
  pub before : Past
  pub at : Point
  pub by : Entry
  pub comes : Comes past before at
  pub is_host : at.action ≡ Host by
  pub ends : IsTrue (among i (ended_by by))

pub ending : (past : Past) (i : ℕ) → IsTrue (ended past i) → Ending past i
ending [] i h = absurd cc
ending (p ∷ past) i h = go p.action refl (ending past i) h
  where
    earlier : Ending past i → Ending (p ∷ past) i
    earlier e = record { before = e.before; at = e.at; by = e.by; comes = older e.comes; is_host = e.is_host; ends = e.ends }

    by_entry : (x : Entry) → p.action ≡ Host x → (IsTrue (ended past i) → Ending past i) → (b : Bool) → among i (ended_by x) ≡ b → IsTrue (b || ended past i) → Ending (p ∷ past) i
    by_entry x is rest true e h = record { before = past; at = p; by = x; comes = newest; is_host = is; ends = e }
    by_entry x is rest false e h = earlier (rest h)

    go : (d : Action) → p.action ≡ d → (IsTrue (ended past i) → Ending past i) → IsTrue (list_any (λ x. among i (ended_by x)) (cons_option (host_of d) (entries past))) → Ending (p ∷ past) i
    go (Host x) is rest h = by_entry x is rest (among i (ended_by x)) refl h
    go _ is rest h = earlier (rest h)

-- an entry that has come has ended what it ends
pub has_ended : (past b : Past) (p : Point) (x : Entry) (i : ℕ) → Comes past b p → p.action ≡ Host x → IsTrue (among i (ended_by x)) → IsTrue (ended past i)
has_ended past b p x i newest is h = subst (λ (d : Action). IsTrue (list_any (λ x. among i (ended_by x)) (cons_option (host_of d) (entries b)))) (sym is) (or_left (among i (ended_by x)) (ended b i) h)
has_ended past b p x i (older {past = rest} {q = q} c) is h = go (host_of q.action) (has_ended rest b p x i c is h)
  where
    go : (o : Option Entry) → IsTrue (ended rest i) → IsTrue (list_any (λ x. among i (ended_by x)) (cons_option o (entries rest)))
    go None e = e
    go (Some y) e = or_right (among i (ended_by y)) (ended rest i) e

-- ---- what a point names

asked_alive : (past : Past) (asked : Asked) (i : ℕ) (kind : Entry → Bool) → (IsTrue (list_any (is_dead past) asked) → ⊥) → Contains asked (i, kind) → IsTrue (holds (live past i) kind)
asked_alive past asked i kind alive c = unless (holds (live past i) kind) (λ dead. alive (member_passes (is_dead past) asked (i, kind) c dead))

-- a host entry names live ids
pub host_names_live : (past : Past) (p : Point) (x : Entry) → p.action ≡ Host x → (IsTrue (breaks_live_id past p) → ⊥) → (i : ℕ) (kind : Entry → Bool) → Contains (asked_by_entry x) (i, kind) → IsTrue (holds (live past i) kind)
host_names_live past p x is alive i kind c = asked_alive past (asked_by_entry x) i kind (λ dead. alive (turn (or_left (list_any (is_dead past) (asked_by_entry x)) (lists_stray past x) dead))) c
  where
    turn : IsTrue (list_any (is_dead past) (asked_by_entry x) || lists_stray past x) → IsTrue (breaks_live_id past p)
    turn h = subst (λ (d : Action). IsTrue (list_any (is_dead (if is_some (host_of d) then past else until p.entry past)) (asked_by d) || holds (host_of d) (lists_stray past))) (sym is) h

-- and lists none that isn't in the pool of its defragmentation
pub host_lists_own : (past : Past) (p : Point) (x : Entry) → p.action ≡ Host x → (IsTrue (breaks_live_id past p) → ⊥) → IsTrue (lists_stray past x) → ⊥
host_lists_own past p x is alive stray =
    alive (subst (λ (d : Action). IsTrue (list_any (is_dead (if is_some (host_of d) then past else until p.entry past)) (asked_by d) || holds (host_of d) (lists_stray past))) (sym is)
    (or_right (list_any (is_dead past) (asked_by_entry x)) (lists_stray past x) stray))

-- a point of a batch names what was live when its submit came
pub batch_names_live : (past : Past) (p : Point) → host_of p.action ≡ None → (IsTrue (breaks_live_id past p) → ⊥) → (i : ℕ) (kind : Entry → Bool) → Contains (asked_by p.action) (i, kind) → IsTrue (holds (live (until p.entry past) i) kind)
batch_names_live past p quiet alive i kind c = asked_alive (until p.entry past) (asked_by p.action) i kind (λ dead. alive (or_left _ _ (subst (λ (o : Option Entry). IsTrue (list_any (is_dead (if is_some o then past else until p.entry past)) (asked_by p.action))) (sym quiet) dead))) c
