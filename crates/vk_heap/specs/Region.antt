-- A region of memory as the list of its bytes.
use Rattle.std.specs.Prelude.{ℕ, zero, suc, ◌+◌, ◌-◌, List, [], ◌++◌, length, take, drop, replicate}

-- The region with these bytes from a place on, and all others kept.
abbrev pub splice : List ℕ → ℕ → List ℕ → List ℕ
splice region at bytes = take at region ++ bytes ++ drop (at + length bytes) region

-- The bytes from a place on, so many.
abbrev pub piece : List ℕ → ℕ → ℕ → List ℕ
piece region at len = take len (drop at region)

-- A region of so many bytes, of which those behind the first ones are as they were when it was made: 0xCD (Vulkan, "Device Memory", on the contents of new memory; the value: profile).
abbrev pub with_fresh : List ℕ → ℕ → List ℕ
with_fresh bytes size = bytes ++ replicate (size - length bytes) 205

-- N copies of the bytes, one after the other.
unfoldable pub repeated : ℕ → List ℕ → List ℕ
repeated zero bytes = []
repeated (suc n) bytes = bytes ++ repeated n bytes
