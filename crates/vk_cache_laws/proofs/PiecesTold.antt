-- A piece that is offered, told in place.
use Rattle.std.proofs.Common.{◌≡◌, ℕ, List, IsTrue, Option, Some, None, refl, ap, sym, ◌∙◌, subst}
use Rattle.vk_model.specs.declared.entry.Entry.{Entry}
use Rattle.vk_model.specs.World.Bytes.{Byte}
use Rattle.vk_model.specs.World.ByteWrites.{ByteWrite, Source, Value, From}
use Rattle.vk_model.specs.Rules.Table.{first_fault}
use Rattle.vk_model.specs.Sync.Node.{Node}
use Rattle.vk_model.specs.Run.Caches.{Held, Dirty, Cell, queue_agent, with_held, with_write}
use Rattle.vk_model.specs.Run.Runs.{Name, Step, Stage, is_done, offered}
use Rattle.vk_model.specs.Run.CachedRuns.{Cells, numbered, named_piece, write_to, source_through, after_write, after_piece}
use Rattle.vk_laws.specs.CacheRuns.{CachedRun}
use Rattle.vk_laws.specs.CleanPieces.{PiecesFindNothingDirty}
use Rattle.vk_laws.specs.DirectRuns.{HostMemory, value_in, byte_after, memory_after_piece}
use Rattle.vk_laws.proofs.CachedRunning.Touches.{held_there, held_elsewhere}
use Rattle.vk_cache_laws.specs.InPlace.{Behind, Lag, in_memory, IsTold, AreTold, lag_after_write, lag_after_piece}
use Rattle.vk_cache_laws.proofs.Told.{alike_after, apart, one_queue}
use Rattle.std.specs.Prelude.{◌==◌, Bool, true, false}
use Rattle.std.proofs.lemmas.Bool.{eqb-true, eq-eqb}

-- where no queue's cache holds a byte dirty, memory isn't behind
pub no_lag_of : {value : ℕ} {host : Option Held} (behind : Option Behind) (cell : Cell) → IsTold value host behind cell → ((q u : ℕ) → cell.held (queue_agent q) ≡ Some (Dirty u) → ⊥) → behind ≡ None
no_lag_of None cell i none = refl
no_lag_of {value} (Some b) cell i none = absurd (none b.queue value (i.held b refl))

-- memory is behind by a queue's write
abbrev behind_by : ℕ → ℕ → Option Behind
behind_by q value = Some (record { queue = q; value = value })

-- a queue writes a byte of which memory isn't behind
written_told : {value : ℕ} {host : Option Held} (cell : Cell) → IsTold value host None cell → (q v : ℕ) → IsTold v host (Some (record { queue = q; value = value })) (with_write (queue_agent q) v cell)
written_told {value} {host} cell i q v = record {
  region = i.region;
  dirty = λ p u e. at_queue p u (p == q) refl e;
  held = λ b is. (let mine : Behind = record { queue = q; value = value } in let it : mine ≡ b = cc in let same : q ≡ b.queue = ap (λ (x : Behind). x.queue) it in
      subst (λ (k : ℕ). (with_held (queue_agent q) (Some (Dirty v)) cell).held (queue_agent k) ≡ Some (Dirty v)) same (held_there (queue_agent q) (Some (Dirty v)) cell));
  alike = alike_after i.alike (held_elsewhere (queue_agent q) (Some (Dirty v)) cell 0 (apart q));
}
  where
    at_queue : (p u : ℕ) (same : Bool) → (p == q) ≡ same → (with_held (queue_agent q) (Some (Dirty v)) cell).held (queue_agent p) ≡ Some (Dirty u) → (u ≡ v) × (w : ℕ) × (behind_by q value ≡ Some (record { queue = p; value = w }))
    at_queue p u true same e =
        let one : p ≡ q = eqb-true p q same in
        let d : Some (Dirty v) ≡ Some (Dirty u) = sym (held_there (queue_agent q) (Some (Dirty v)) cell) ∙ subst (λ (k : ℕ). (with_held (queue_agent q) (Some (Dirty v)) cell).held (queue_agent k) ≡ Some (Dirty u)) one e in
        (cc, value, ap (λ (k : ℕ). behind_by k value) (sym one))
    at_queue p u false same e =
        let was : cell.held (queue_agent p) ≡ Some (Dirty u) = sym (held_elsewhere (queue_agent q) (Some (Dirty v)) cell (queue_agent p) (λ a. differ (one_queue p q a))) ∙ e in
        let d = i.dirty p u was in
        let nobody : Option Behind = None in
        let no_one : nobody ≡ Some (record { queue = p; value = d.1 }) = d.2 in absurd cc
      where
        differ : p ≡ q → ⊥
        differ one = let no : true ≡ false = sym (eq-eqb p q one) ∙ same in cc

module _ (clean : PiecesFindNothingDirty) (t : List Entry) (steps : List Step) (s : Stage) (m : HostMemory) (lag : Lag) (cells : Cells) (x : Name) (none : first_fault t ≡ None) (run : CachedRun t steps s cells) (told : AreTold m lag cells) (may : IsTrue (is_done (offered s.front.past s.done) x)) where
  pub piece_lag : (c : Byte) (w : ByteWrite) → write_to c (named_piece s.front.past x) ≡ Some w → lag c ≡ None
  piece_lag c w is = no_lag_of (lag c) (cells c) (told c) (λ q u held. clean.written t steps s cells x c w q u none run may is held)

  module _ (n : Node) (at : numbered s.front.past x.0 ≡ Some n) where
    a : ℕ
    a = queue_agent n.point.queue

    source_same : (c : Byte) (w : ByteWrite) → write_to c (named_piece s.front.past x) ≡ Some w → (y : Source) → w.source ≡ y → source_through (queue_agent n.point.queue) cells y ≡ value_in m.region y
    source_same c w is (Value v) e = refl
    source_same c w is (From d) e =
        let there : lag d ≡ None = no_lag_of (lag d) (cells d) (told d) (λ q u held. clean.copied t steps s cells x c d w q u none run may is e held) in
        clean.seen t steps s cells x n c d w none run may at is e ∙ (told d).region ∙ ap (in_memory (m.region d)) there

    pub piece_told : AreTold (memory_after_piece (named_piece s.front.past x) m) (lag_after_piece n.point.queue (named_piece s.front.past x) m lag) (after_piece (queue_agent n.point.queue) (named_piece s.front.past x) cells)
    piece_told c = go (write_to c (named_piece s.front.past x)) refl
      where
        go : (o : Option ByteWrite) → write_to c (named_piece s.front.past x) ≡ o → IsTold (byte_after m.region o c) (m.host c) (lag_after_write n.point.queue (m.region c) o (lag c)) (after_write (queue_agent n.point.queue) cells o (cells c))
        go None is = told c
        go (Some w) is =
            let here : IsTold (m.region c) (m.host c) None (cells c) = subst (λ (b : Option Behind). IsTold (m.region c) (m.host c) b (cells c)) (piece_lag c w is) (told c) in
            subst (λ (v : ℕ). IsTold v (m.host c) (Some (record { queue = n.point.queue; value = m.region c })) (with_write (queue_agent n.point.queue) (source_through (queue_agent n.point.queue) cells w.source) (cells c)))
            (source_same c w is w.source refl) (written_told (cells c) here n.point.queue (source_through (queue_agent n.point.queue) cells w.source))
