-- The acts of a command, one after another.
use Rattle.std.proofs.Common.{◌≡◌, ℕ, ◌+◌, ◌<◌, ◌≤◌, List, [], ◌∷◌, ◌++◌, map, length, drop, get_or, add-one, drop-cons, append_assoc, refl, arith}
use Rattle.std.specs.List.{enumerate_from}
use Rattle.std.proofs.lemmas.List.{drop_all, map-append, append-nil}
use Rattle.vk_model.specs.declared.command.Dependency.{Dependency}
use Rattle.vk_model.specs.declared.command.Element.{Element}
use Rattle.vk_model.specs.declared.command.Element.TheVariants as element
use Rattle.vk_model.specs.Sync.Node as sync
use Rattle.vk_order.specs.declared.act.Act.{Act}
use Rattle.vk_order.specs.NodeViews.{act_of}

-- the acts of elements from index k on
abbrev pub from_barrier : ℕ → List Element → List sync.Act
from_barrier k es = map (sync.Depends sync.Barrier) (drop k es)

abbrev pub from_event : (ℕ → sync.Role) → ℕ → List Dependency → List sync.Act
from_event role k ds = map (λ p. sync.Depends (role p.0) (element.Memory p.1)) (enumerate_from k (drop k ds))

pub barrier-step : (es : List Element) (k : ℕ) (d : Element) (acts : List Act) (a : Act) → k < length es → act_of a ≡ sync.Depends sync.Barrier (get_or es k d)
    → map act_of (acts ++ a ∷ []) ++ from_barrier (k + 1) es ≡ map act_of acts ++ from_barrier k es
barrier-step es k d acts a lt is =
    let e : drop k es ≡ get_or es k d ∷ drop (k + 1) es = rw (add-one, drop-cons es k d) refl in
    rw (map-append act_of acts (a ∷ []), e, is) (append_assoc (map act_of acts) _ _)

pub barrier-end : (es : List Element) (k : ℕ) (acts : List sync.Act) → length es ≤ k → acts ++ from_barrier k es ≡ acts
barrier-end es k acts le = rw (drop_all k es le) (append-nil acts)

-- that of a single element
pub single_barrier : (es : List Element) (d : Element) → length es ≡ 1 → map (sync.Depends sync.Barrier) es ≡ sync.Depends sync.Barrier (get_or es 0 d) ∷ []
single_barrier [] d one = absurd (omega arith)
single_barrier (e ∷ []) d one = refl
single_barrier (e ∷ f ∷ es) d one = absurd (omega arith)

pub event-step : (role : ℕ → sync.Role) (ds : List Dependency) (k : ℕ) (d : Dependency) (acts : List Act) (a : Act) → k < length ds → act_of a ≡ sync.Depends (role k) (element.Memory (get_or ds k d))
    → map act_of (acts ++ a ∷ []) ++ from_event role (k + 1) ds ≡ map act_of acts ++ from_event role k ds
event-step role ds k d acts a lt is =
    let e : drop k ds ≡ get_or ds k d ∷ drop (k + 1) ds = rw (add-one, drop-cons ds k d) refl in
    rw (map-append act_of acts (a ∷ []), e, is) (append_assoc (map act_of acts) _ _)

pub event-end : (role : ℕ → sync.Role) (ds : List Dependency) (k : ℕ) (acts : List sync.Act) → length ds ≤ k → acts ++ from_event role k ds ≡ acts
event-end role ds k acts le = rw (drop_all k ds le) (append-nil acts)

pub ruleset elements_pushed = (barrier-step, barrier-end)

pub ruleset dependencies_pushed = (event-step, event-end)
