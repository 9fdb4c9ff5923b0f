use Rattle.std.proofs.Common.{refl}
use Rattle.vk_model.specs.Rules.Table.{breaks}
use Rattle.vk_model.specs.Trace.PointViews.{point_of}
use Rattle.vk_history.specs.PointViews.{past}
use Rattle.vk_validate.specs.Inner.Early.{breaks_early}
use Rattle.vk_validate.proofs.Judging.Rules.{rest_unbroken}
use Rattle.vk_validate.proofs.rules.breaks_early.Goals as goal

pub returns-in-NewId : goal.returns-in-NewId
unfolding breaks_early breaks
returns-in-NewId c = rw c.in-NewId.is c.breaks_new_id.ensures

pub returns-in-LiveId : goal.returns-in-LiveId
unfolding breaks_early breaks
returns-in-LiveId c = rw c.in-LiveId.is c.breaks_live_id.ensures

pub returns-in-Queue : goal.returns-in-Queue
unfolding breaks_early breaks
returns-in-Queue c = rw c.in-Queue.is (c.breaks_queue.ensures (past c.args.history.now))

pub returns-in-QueueKind : goal.returns-in-QueueKind
unfolding breaks_early breaks
returns-in-QueueKind c = rw c.in-QueueKind.is (c.breaks_queue_kind.ensures (past c.args.history.now))

pub returns-in-Size : goal.returns-in-Size
unfolding breaks_early breaks
returns-in-Size c = rw c.in-Size.is c.breaks_size.ensures

pub returns-in-Usage : goal.returns-in-Usage
unfolding breaks_early breaks
returns-in-Usage c = rw c.in-Usage.is c.breaks_usage.ensures

pub returns-in-MemoryType : goal.returns-in-MemoryType
unfolding breaks_early breaks
returns-in-MemoryType c = rw c.in-MemoryType.is c.breaks_memory_type.ensures

pub returns-in-MemorySize : goal.returns-in-MemorySize
unfolding breaks_early breaks
returns-in-MemorySize c = rw c.in-MemorySize.is (c.breaks_memory_size.ensures (past c.args.history.now))

pub returns-in-PoolSize : goal.returns-in-PoolSize
unfolding breaks_early breaks
returns-in-PoolSize c = rw c.in-PoolSize.is c.breaks_pool_size.ensures

pub returns-in-BindRange : goal.returns-in-BindRange
unfolding breaks_early breaks
returns-in-BindRange c = rw c.in-BindRange.is c.breaks_bind_range.ensures

pub returns-in-BindAlign : goal.returns-in-BindAlign
unfolding breaks_early breaks
returns-in-BindAlign c = rw c.in-BindAlign.is c.breaks_bind_align.ensures

pub returns-in-Aliased : goal.returns-in-Aliased
unfolding breaks_early breaks
returns-in-Aliased c = rw c.in-Aliased.is c.breaks_aliased.ensures

pub returns-in-Range : goal.returns-in-Range
unfolding breaks_early breaks
returns-in-Range c = rw c.in-Range.is c.breaks_range.ensures

pub returns-in-Align : goal.returns-in-Align
unfolding breaks_early breaks
returns-in-Align c = rw c.in-Align.is c.breaks_align.ensures

pub returns-in-Overlap : goal.returns-in-Overlap
unfolding breaks_early breaks
returns-in-Overlap c = rw c.in-Overlap.is c.requires.searched.overlapping

pub returns-in-Format : goal.returns-in-Format
unfolding breaks_early breaks
returns-in-Format c = rw c.in-Format.is c.breaks_format.ensures

pub returns-in-Subresource : goal.returns-in-Subresource
unfolding breaks_early breaks
returns-in-Subresource c = rw c.in-Subresource.is c.breaks_subresource.ensures

pub returns-in-Stage : goal.returns-in-Stage
unfolding breaks_early breaks
returns-in-Stage c = rw c.in-Stage.is c.breaks_stage.ensures

pub returns-in-Layout : goal.returns-in-Layout
unfolding breaks_early breaks
returns-in-Layout c = rw c.in-Layout.is c.breaks_layout.ensures

pub returns-in-OldLayout : goal.returns-in-OldLayout
unfolding breaks_early breaks
returns-in-OldLayout c = rw c.in-OldLayout.is c.breaks_old_layout.ensures

pub returns-in-OwnerWhole : goal.returns-in-OwnerWhole
unfolding breaks_early breaks
returns-in-OwnerWhole c = rw c.in-OwnerWhole.is c.breaks_owner_whole.ensures

pub returns-in-OwnerPair : goal.returns-in-OwnerPair
unfolding breaks_early breaks
returns-in-OwnerPair c = rw c.in-OwnerPair.is c.requires.searched.unpaired

pub returns-in-EventState : goal.returns-in-EventState
unfolding breaks_early breaks
returns-in-EventState c = rw c.in-EventState.is c.breaks_event_state.ensures

pub returns-in-EventDependency : goal.returns-in-EventDependency
unfolding breaks_early breaks
returns-in-EventDependency c = rw c.in-EventDependency.is c.breaks_event_dependency.ensures

pub returns-in-SignalValue : goal.returns-in-SignalValue
unfolding breaks_early breaks
returns-in-SignalValue c = rw c.in-SignalValue.is c.breaks_signal_value.ensures

pub returns-in-SignalOrder : goal.returns-in-SignalOrder
unfolding breaks_early breaks
returns-in-SignalOrder c = rw c.in-SignalOrder.is c.requires.searched.unordered

pub returns-in-WaitBeforeSignal : goal.returns-in-WaitBeforeSignal
unfolding breaks_early breaks
returns-in-WaitBeforeSignal c = rw c.in-WaitBeforeSignal.is refl

pub returns-in-WaitNever : goal.returns-in-WaitNever
unfolding breaks_early breaks
returns-in-WaitNever c = rw c.in-WaitNever.is c.breaks_wait_never.ensures

pub returns-in-MapState : goal.returns-in-MapState
unfolding breaks_early breaks
returns-in-MapState c = rw c.in-MapState.is c.breaks_map_state.ensures

pub returns-in-HostVisible : goal.returns-in-HostVisible
unfolding breaks_early breaks
returns-in-HostVisible c = rw c.in-HostVisible.is c.breaks_host_visible.ensures

pub returns-in-PoolKind : goal.returns-in-PoolKind
unfolding breaks_early breaks
returns-in-PoolKind c = rw c.in-PoolKind.is c.breaks_pool_kind.ensures

pub returns-in-PassState : goal.returns-in-PassState
unfolding breaks_early breaks
returns-in-PassState c = rw c.in-PassState.is c.breaks_pass_state.ensures

pub returns-in-PassBusy : goal.returns-in-PassBusy
unfolding breaks_early breaks
returns-in-PassBusy c = rw c.in-PassBusy.is c.requires.searched.pass_busy

pub returns-in-PassWrite : goal.returns-in-PassWrite
unfolding breaks_early breaks
returns-in-PassWrite c = rw c.in-PassWrite.is c.breaks_pass_write.ensures

pub returns-in_default : goal.returns-in_default
returns-in_default c =
    let d = c.in_default in
    rest_unbroken (past c.args.history.now) (point_of c.args.point.now) c.args.rule (record {
      new_id = d.not-NewId;
      live_id = d.not-LiveId;
      queue = d.not-Queue;
      queue_kind = d.not-QueueKind;
      size = d.not-Size;
      usage = d.not-Usage;
      memory_type = d.not-MemoryType;
      memory_size = d.not-MemorySize;
      pool_size = d.not-PoolSize;
      bind_range = d.not-BindRange;
      bind_align = d.not-BindAlign;
      aliased = d.not-Aliased;
      range = d.not-Range;
      align = d.not-Align;
      overlap = d.not-Overlap;
      format = d.not-Format;
      subresource = d.not-Subresource;
      stage = d.not-Stage;
      layout = d.not-Layout;
      old_layout = d.not-OldLayout;
      owner_whole = d.not-OwnerWhole;
      owner_pair = d.not-OwnerPair;
      event_state = d.not-EventState;
      event_dependency = d.not-EventDependency;
      signal_value = d.not-SignalValue;
      signal_order = d.not-SignalOrder;
      wait_before_signal = d.not-WaitBeforeSignal;
      wait_never = d.not-WaitNever;
      map_state = d.not-MapState;
      host_visible = d.not-HostVisible;
      pool_kind = d.not-PoolKind;
      pass_state = d.not-PassState;
      pass_busy = d.not-PassBusy;
      pass_write = d.not-PassWrite;
    })
