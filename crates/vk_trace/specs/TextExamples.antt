-- Worked texts: what some bytes mean, which bytes mean nothing, and the texts of answers.
use Rattle.std.specs.Prelude.{◌≡◌, ℕ, List, [], ◌∷◌, codes, Option, Some, None}
use Rattle.serde_json.specs.Read.{read}
use Rattle.vk_model.specs.declared.layout.Format.TheVariants as format
use Rattle.vk_model.specs.declared.resource.Kind.TheVariants as kind
use Rattle.vk_model.specs.declared.resource.Sharing.TheVariants as sharing
use Rattle.vk_model.specs.declared.resource.Place.TheVariants as place
use Rattle.vk_model.specs.declared.command.BufferImageCopy.{BufferImageCopy}
use Rattle.vk_model.specs.declared.command.ImageCopy.{ImageCopy}
use Rattle.vk_model.specs.declared.command.ImageElement.{ImageElement}
use Rattle.vk_model.specs.declared.command.SubresourceRange.{SubresourceRange}
use Rattle.vk_model.specs.declared.command.Length.TheVariants as length_of
use Rattle.vk_model.specs.declared.command.Dependency.{Dependency}
use Rattle.vk_model.specs.declared.command.Element.TheVariants as element
use Rattle.vk_model.specs.declared.command.Cmd.TheVariants as cmd
use Rattle.vk_model.specs.declared.entry.Entry.{Entry}
use Rattle.vk_model.specs.declared.entry.Entry.TheVariants as entry
use Rattle.vk_model.specs.declared.rule.Rule.TheVariants as rule
use Rattle.vk_model.specs.declared.rule.At.TheVariants as at
use Rattle.vk_trace.specs.declared.printing.Outcome.TheVariants.{Reads, Refused}
use Rattle.vk_trace.specs.Members.{◌>>=◌}
use Rattle.vk_trace.specs.Trace.{trace_value}
use Rattle.vk_trace.specs.Text.{lines_of}

-- The entries that a text of JSON means.
abbrev pub meant_by : List ℕ → Option (List Entry)
meant_by bytes = read bytes >>= trace_value

-- A buffer is filled on a queue, and the host reads it.
abbrev pub first_upload : List Entry
first_upload =
    entry.Buffer 1 (record { size = 16; usage = record { 0 = 3 }; sharing = sharing.Exclusive; place = place.Dedicated 1 })
    ∷ entry.Semaphore 2 0
    ∷ entry.Submit 0 (record {
      waits = [];
      commands = cmd.Fill 1 0 (length_of.Bytes 16) 67305985
          ∷ cmd.Barrier (element.Memory (record {
            source_stages = record { 0 = 4096 };
            source_accesses = record { 0 = 4096 };
            destination_stages = record { 0 = 16384 };
            destination_accesses = record { 0 = 8192 };
          }) ∷ []) ∷ [];
      signals = record { semaphore = 2; value = 1; stages = record { 0 = 65536 } } ∷ [];
    } ∷ [])
    ∷ entry.Wait (record { semaphore = 2; value = 1 } ∷ [])
    ∷ entry.Map 1
    ∷ entry.Read 1 0 4
    ∷ []

-- A batch on another queue waits for a value that the host signals later; it sets an event and awaits it.
abbrev pub ahead_of_signal : List Entry
ahead_of_signal =
    entry.Semaphore 2 0
    ∷ entry.Event 3
    ∷ entry.Submit 1 (record {
      waits = record { semaphore = 2; value = 5; stages = record { 0 = 4096 } } ∷ [];
      commands = cmd.Set 3 (transfers ∷ []) ∷ cmd.Await 3 (transfers ∷ []) ∷ [];
      signals = [];
    } ∷ [])
    ∷ entry.Signal 2 5
    ∷ []
  where
    transfers : Dependency
    transfers = record {
      source_stages = record { 0 = 4096 };
      source_accesses = record { 0 = 4096 };
      destination_stages = record { 0 = 4096 };
      destination_accesses = record { 0 = 2048 };
    }

-- A host writes into memory of the trace's own, and a queue copies from there.
abbrev pub staging : List Entry
staging =
    entry.Memory 1 (record { memory_type = 1; size = 64 })
    ∷ entry.Buffer 2 (record { size = 16; usage = record { 0 = 1 }; sharing = sharing.Concurrent; place = place.Memory 1 0 })
    ∷ entry.Map 2
    ∷ entry.Write 2 4 (222 ∷ 173 ∷ [])
    ∷ entry.Unmap 2
    ∷ entry.Submit 0 (record {
      waits = [];
      commands = cmd.Update 3 0 (1 ∷ 2 ∷ 3 ∷ 4 ∷ []) ∷ cmd.Copy 2 3 (record { source_offset = 4; destination_offset = 8; size = 2 } ∷ []) ∷ [];
      signals = [];
    } ∷ [])
    ∷ entry.Destroy 2
    ∷ entry.Free 1
    ∷ []

-- A queue's writes of a part of a buffer are made visible to the host, which has a cache there.
abbrev pub cached_read_back : List Entry
cached_read_back =
    entry.Buffer 2 (record { size = 64; usage = record { 0 = 2 }; sharing = sharing.Exclusive; place = place.Dedicated 2 })
    ∷ entry.Flush 2 0 length_of.Whole
    ∷ entry.Submit 0 (record {
      waits = [];
      commands = cmd.Barrier (element.Memory to_host ∷ element.Buffer (record { dependency = to_host; families = record { source = 0; destination = 1 }; buffer = 2; offset = 16; size = length_of.Bytes 48 }) ∷ []) ∷ [];
      signals = [];
    } ∷ [])
    ∷ entry.Invalidate 2 16 (length_of.Bytes 48)
    ∷ []
  where
    to_host : Dependency
    to_host = record {
      source_stages = record { 0 = 4096 };
      source_accesses = record { 0 = 4096 };
      destination_stages = record { 0 = 16384 };
      destination_accesses = record { 0 = 8192 };
    }

-- An image is cleared after a transition, and its texels are copied to a buffer, in and to another image.
abbrev pub with_images : List Entry
with_images =
    entry.Image 3 (record { format = format.R8G8Uint; width = 9; height = 5; levels = 2; layers = 1; tiling = kind.Optimal; usage = record { 0 = 3 }; sharing = sharing.Exclusive; place = place.Dedicated 0 })
    ∷ entry.Image 4 (record { format = format.R16Uint; width = 9; height = 5; levels = 1; layers = 1; tiling = kind.Linear; usage = record { 0 = 2 }; sharing = sharing.Concurrent; place = place.Memory 1 64 })
    ∷ entry.Submit 1 (record {
      waits = [];
      commands = cmd.Barrier (element.Image to_destination ∷ []) ∷ cmd.Clear 3 7 (1 ∷ 2 ∷ 3 ∷ 4 ∷ []) (all ∷ [])
          ∷ cmd.CopyIn 2 3 7 (region ∷ []) ∷ cmd.CopyOut 3 1 2 (region ∷ []) ∷ cmd.CopyImage 3 1 4 7 (across ∷ []) ∷ [];
      signals = [];
    } ∷ [])
    ∷ []
  where
    all : SubresourceRange
    all = record { first_level = 0; levels = 2; first_layer = 0; layers = 1 }

    to_destination : ImageElement
    to_destination = record {
      dependency = record {
        source_stages = record { 0 = 0 };
        source_accesses = record { 0 = 0 };
        destination_stages = record { 0 = 4096 };
        destination_accesses = record { 0 = 4096 };
      };
      families = record { source = 4294967295; destination = 4294967295 };
      image = 3;
      old_layout = 0;
      new_layout = 7;
      range = all;
    }

    region : BufferImageCopy
    region = record { buffer_offset = 8; row_length = 12; image_height = 0; level = 1; first_layer = 0; layers = 1; x = 2; y = 1; width = 2; height = 1 }

    across : ImageCopy
    across = record {
      source_level = 1;
      source_first_layer = 0;
      destination_level = 0;
      destination_first_layer = 0;
      layers = 1;
      source_x = 2;
      source_y = 1;
      destination_x = 5;
      destination_y = 4;
      width = 2;
      height = 1;
    }

-- Texts that are traces.
pub record Traces : Type 0 where
  pub upload : meant_by (codes "[[\"buffer\",1,16,3,\"exclusive\",[\"dedicated\",1]],[\"semaphore\",2,0],[\"submit\",0,[[[],[[\"fill\",1,0,16,67305985],[\"barrier\",[[4096,4096,16384,8192]],[],[]]],[[2,1,65536]]]]],[\"wait\",[[2,1]]],[\"map\",1],[\"read\",1,0,4]]") ≡ Some first_upload
  pub ahead : meant_by (codes "[[\"semaphore\",2,0],[\"event\",3],[\"submit\",1,[[[[2,5,4096]],[[\"set\",3,[[4096,4096,4096,2048]]],[\"await\",3,[[4096,4096,4096,2048]]]],[]]]],[\"signal\",2,5]]") ≡ Some ahead_of_signal
  pub upload_by_copy : meant_by (codes "[[\"memory\",1,1,64],[\"buffer\",2,16,1,\"concurrent\",[\"memory\",1,0]],[\"map\",2],[\"write\",2,4,\"deAD\"],[\"unmap\",2],[\"submit\",0,[[[],[[\"update\",3,0,\"01020304\"],[\"copy\",2,3,[[4,8,2]]]],[]]]],[\"destroy\",2],[\"free\",1]]") ≡ Some staging
  pub read_back : meant_by (codes "[[\"buffer\",2,64,2,\"exclusive\",[\"dedicated\",2]],[\"flush\",2,0,\"whole\"],[\"submit\",0,[[[],[[\"barrier\",[[4096,4096,16384,8192]],[[4096,4096,16384,8192,0,1,2,16,48]],[]]],[]]]],[\"invalidate\",2,16,48]]") ≡ Some cached_read_back
  pub images : meant_by (codes "[[\"image\",3,\"R8G8_UINT\",9,5,2,1,\"optimal\",3,\"exclusive\",[\"dedicated\",0]],[\"image\",4,\"R16_UINT\",9,5,1,1,\"linear\",2,\"concurrent\",[\"memory\",1,64]],[\"submit\",1,[[[],[[\"barrier\",[],[],[[0,0,4096,4096,4294967295,4294967295,3,0,7,[0,2,0,1]]]],[\"clear\",3,7,[1,2,3,4],[[0,2,0,1]]],[\"copy_in\",2,3,7,[[8,12,0,1,0,1,2,1,2,1]]],[\"copy_out\",3,1,2,[[8,12,0,1,0,1,2,1,2,1]]],[\"copy_image\",3,1,4,7,[[1,0,0,0,1,2,1,5,4,2,1]]]],[]]]]]") ≡ Some with_images
  -- which queues there are is for a rule to say
  pub greatest_queue : meant_by (codes "[[\"submit\",4294967295,[]]]") ≡ Some (entry.Submit 4294967295 [] ∷ [])
  pub nothing : meant_by (codes " [ ] ") ≡ Some []
  -- a word written with escapes is that word
  pub escapes : meant_by (codes "[[\"\\u006dap\",1]]") ≡ Some (entry.Map 1 ∷ [])
  pub greatest_id : meant_by (codes "[[\"map\",4294967295]]") ≡ Some (entry.Map 4294967295 ∷ [])
  pub greatest_value : meant_by (codes "[[\"semaphore\",1,18446744073709551615]]") ≡ Some (entry.Semaphore 1 18446744073709551615 ∷ [])

-- Texts that are no trace.
pub record NoTraces : Type 0 where
  pub empty : meant_by [] ≡ None
  pub unfinished : meant_by (codes "[[\"map\",1]") ≡ None
  pub second_array : meant_by (codes "[][]") ≡ None
  pub comma_at_the_end : meant_by (codes "[[\"map\",1],]") ≡ None
  -- numbers
  pub sign : meant_by (codes "[[\"map\",-1]]") ≡ None
  pub negative_zero : meant_by (codes "[[\"map\",-0]]") ≡ None
  pub plus : meant_by (codes "[[\"map\",+1]]") ≡ None
  pub point : meant_by (codes "[[\"map\",1.0]]") ≡ None
  pub exponent : meant_by (codes "[[\"map\",1e0]]") ≡ None
  pub leading_zero : meant_by (codes "[[\"map\",01]]") ≡ None
  pub id_too_large : meant_by (codes "[[\"map\",4294967296]]") ≡ None
  pub value_too_large : meant_by (codes "[[\"semaphore\",1,18446744073709551616]]") ≡ None
  pub truth : meant_by (codes "[[\"map\",true]]") ≡ None
  pub number_as_text : meant_by (codes "[[\"map\",\"1\"]]") ≡ None
  -- members
  pub member_too_few : meant_by (codes "[[\"map\"]]") ≡ None
  pub member_too_many : meant_by (codes "[[\"map\",1,1]]") ≡ None
  pub object_for_array : meant_by (codes "[{\"map\":1}]") ≡ None
  -- words
  pub unknown_entry : meant_by (codes "[[\"Map\",1]]") ≡ None
  pub unknown_length : meant_by (codes "[[\"submit\",0,[[[],[[\"fill\",1,0,\"Whole\",0]],[]]]]]") ≡ None
  -- bytes in hex with half a byte, and with what is no digit
  pub odd_hex : meant_by (codes "[[\"write\",1,0,\"abc\"]]") ≡ None
  pub no_digit : meant_by (codes "[[\"write\",1,0,\"0g\"]]") ≡ None
  pub unknown_format : meant_by (codes "[[\"image\",1,\"R8\",8,8,1,1,\"optimal\",3,\"exclusive\",[\"dedicated\",0]]]") ≡ None
  -- an element of a buffer is one flat array
  pub element_in_parts : meant_by (codes "[[\"submit\",0,[[[],[[\"barrier\",[],[[[4096,4096,4096,2048],[0,1],2,0,16]],[]]],[]]]]]") ≡ None

-- The texts of answers.
pub record Texts : Type 0 where
  pub one_read : lines_of (Reads ((5, 1 ∷ 2 ∷ 3 ∷ 4 ∷ []) ∷ []) None) ≡ codes "5 01020304\n"
  pub stopped : lines_of (Reads ((15, 171 ∷ 205 ∷ []) ∷ []) (Some 16)) ≡ codes "15 abcd\nstopped 16 NO_ROOM\n"
  pub at_entry : lines_of (Refused (at.Entry 5) rule.HazardRaw) ≡ codes "refused 5 HAZARD_RAW\n"
  pub at_command : lines_of (Refused (at.Command 2 0 1) rule.HazardWaw) ≡ codes "refused 2.0.1 HAZARD_WAW\n"
  pub at_wait : lines_of (Refused (at.Wait 3 0 0) rule.WaitBeforeSignal) ≡ codes "refused 3.0.w0 WAIT_BEFORE_SIGNAL\n"
  pub at_signal : lines_of (Refused (at.Signal 2 0 0) rule.SignalOrder) ≡ codes "refused 2.0.s0 SIGNAL_ORDER\n"
