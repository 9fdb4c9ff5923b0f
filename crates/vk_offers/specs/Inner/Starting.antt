-- A command that is started.
use Rattle.std.specs.Prelude.{◌≡◌, ℕ, ◌∷◌, List, true, false}
use Rattle.vk_model.specs.declared.command.Cmd.{Cmd}
use Rattle.vk_model.specs.Trace.Point.{Past, Point, Run}
use Rattle.vk_model.specs.Run.Runs.{Name}
use Rattle.vk_offers.specs.declared.offers.Offers.{Offers}
use Rattle.vk_offers.specs.IsOffers.{IsOffers, ComesNext, is_run, is_run_in_pieces}

-- A command may be started, run in so many pieces.
pub record MayStart (o : Offers) (past : Past) (done : List Name) (p : Point) (c : Cmd) (count : ℕ) : Type 0 where
  pub offers : IsOffers o past done
  pub next : ComesNext past p count
  pub action : p.action ≡ Run c
  pub run : is_run c ≡ true

abbrev pub StartReady : Offers → Point → Cmd → ℕ → Type 0
StartReady o p c count = (past : Past) × (done : List Name) × MayStart o past done p c count

-- It was started.
abbrev pub Starts : Offers → Offers → Point → Cmd → ℕ → Type 0
Starts old new p c count = (past : Past) (done : List Name) → MayStart old past done p c count → IsOffers new (p ∷ past) done

-- A point that isn't has come.
abbrev pub Passes : Offers → Offers → Point → Type 0
Passes old new p = (past : Past) (done : List Name) (count : ℕ) → IsOffers old past done → ComesNext past p count → is_run_in_pieces p.action ≡ false → IsOffers new (p ∷ past) done
