-- What reading leaves, by the tests that come first. Assumes nothing.
use mathlib.Core.Path.{◌≡◌}
use mathlib.Core.List.{List}
use Prim.Native.Nat.{ℕ, ◌+◌, ◌≤◌, ◌<◌}
use lib.ListN.{length}
use borrow.Author.Tests.{le-ltb, lt-ltb}
use Rattle.standard.specs.Encodings.{Tables}
use Rattle.reading.specs.Reading.{refused, reached, read_chunk, ends, read_end}
use Rattle.reading.specs.declared.Held.{Held}
use Rattle.reading.specs.declared.Refusal.TheVariants.{TooManyHeld, RoomTooSmall, ChunkTooLong, TotalTooLarge}

module _ (e m stage state flag : ℕ) (held : Held) (t : Tables) (room : List ℕ) where
  module _ (most : ℕ) (chunk : List ℕ) where
    pub chunk_5 : 3 < held.count → read_chunk e m stage state flag held most t chunk room ≡ refused TooManyHeld room
    unfolding read_chunk
    chunk_5 h = rw (lt-ltb 3 held.count h)

    pub chunk_8 : held.count ≤ 3 → 65536 < length chunk →
        read_chunk e m stage state flag held most t chunk room ≡ refused ChunkTooLong room
    unfolding read_chunk
    chunk_8 h l = rw (le-ltb 3 held.count h, lt-ltb 65536 (length chunk) l)

    pub chunk_14 : held.count ≤ 3 → length chunk ≤ 65536 → most < length chunk →
        read_chunk e m stage state flag held most t chunk room ≡ refused TotalTooLarge room
    unfolding read_chunk
    chunk_14 h l n = rw (le-ltb 3 held.count h, le-ltb 65536 (length chunk) l, lt-ltb most (length chunk) n)

    pub chunk_7 : held.count ≤ 3 → length chunk ≤ 65536 → length chunk ≤ most → length room < length chunk + held.count →
        read_chunk e m stage state flag held most t chunk room ≡ refused RoomTooSmall room
    unfolding read_chunk
    chunk_7 h l n r = rw (
      le-ltb 3 held.count h,
      le-ltb 65536 (length chunk) l,
      le-ltb most (length chunk) n,
      lt-ltb (length room) (length chunk + held.count) r,
    )

    pub chunk_read : held.count ≤ 3 → length chunk ≤ 65536 → length chunk ≤ most → length chunk + held.count ≤ length room →
        read_chunk e m stage state flag held most t chunk room ≡ reached e m stage state flag held t chunk room
    unfolding read_chunk
    chunk_read h l n r = rw (
      le-ltb 3 held.count h,
      le-ltb 65536 (length chunk) l,
      le-ltb most (length chunk) n,
      le-ltb (length room) (length chunk + held.count) r,
    )

  pub end_5 : 3 < held.count → read_end e m stage state flag held t room ≡ refused TooManyHeld room
  unfolding read_end
  end_5 h = rw (lt-ltb 3 held.count h)

  pub end_7 : held.count ≤ 3 → length room < held.count → read_end e m stage state flag held t room ≡ refused RoomTooSmall room
  unfolding read_end
  end_7 h r = rw (le-ltb 3 held.count h, lt-ltb (length room) held.count r)

  pub end_read : held.count ≤ 3 → held.count ≤ length room →
      read_end e m stage state flag held t room ≡ ends e m stage state flag held t room
  unfolding read_end
  end_read h r = rw (le-ltb 3 held.count h, le-ltb (length room) held.count r)
