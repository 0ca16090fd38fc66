-- What is written in refusing mode, through a finish, reads back. Assumes nothing.
use Rattle.std.specs.Prelude.{◌≡◌, true, not, List, [], ◌++◌, map, ℕ, eqb, length}
use Rattle.std.proofs.Math.Option.{none}
use Rattle.standard.specs.Base.{every, line_feeds}
use Rattle.standard.specs.Encodings.{Tables}
use Rattle.standard.specs.Sequence.{shift}
use Rattle.standard.specs.Choice.{spot}
use Rattle.standard.specs.Writers.{Writer, reader_tables}
use Rattle.standard.specs.Images.{image, leaves_out}
use Rattle.decoder.specs.Record.{holding, closed}
use Rattle.demands.specs.Histories.{Call, after, start}
use Rattle.demands.specs.Statements.{Piece, joined, cutting, account, Accepts, AllFeeds}
use Rattle.encoder_spec.specs.Writer.{writer_finish}
use Rattle.encoder_spec.specs.Calls.{Calling, calls_of, all_scalars, written, accepted}
use Rattle.encoder_spec.specs.Calls.{Piece as WriterPiece, account as writer_account}
use Rattle.indexed_writing.specs.Call.{indexed_calls}

-- Demand 2, reading back: the bytes bs, written through a finish from the state s, go through the decoder's calls with the tables t, mark kept,
-- and give the scalars cs and no error. Only the flag of the last shift sequence tells what the finish wrote.
pub record ReadBack (e m : ℕ) (t : Tables) (s : ℕ) (cs bs : List ℕ) : Type 0 where
  -- any feeds that take these bytes: nothing is held
  pub fed : (calls : List Call) → AllFeeds t calls → (after (start e m 1) calls).taken ≡ bs →
      ((after (start e m 1) calls).handed ≡ cs) ×
      ((after (start e m 1) calls).decoder ≡ holding e m (length bs) (line_feeds cs) (spot 0 (shift 0 (not (eqb s 0)))) [])
  -- any cutting into accepted feeds, and a finish
  pub finished : (ps : List Piece) (last : List ℕ) → joined ps ≡ bs → Accepts t (start e m 1) ps last →
      account (start e m 1) (cutting t ps last) ≡ record { handed = cs; reports = []; decoder = closed e m 0 (line_feeds cs) }

-- What the writer w wrote as bs of the scalars cs comes back, with the tables of its reader:
pub record Back (w : Writer) (e m : ℕ) (t : Tables) (s : ℕ) (cs bs : List ℕ) : Type 0 where
  -- each scalar as its image
  pub as_images : ReadBack e m (reader_tables w t) s (map (image w t.second) cs) bs
  -- demand 2's clause: as itself, without the scalars that document 02 leaves out
  pub as_themselves : every (λ c. not (leaves_out w c)) cs ≡ true → ReadBack e m (reader_tables w t) s cs bs

-- What accepted calls write in refusing mode from ASCII without a report 11, cut in any way, and an accepted finish after them. A writer
-- without a state stays in state 0, where a finish writes nothing.
abbrev pub WrittenBack : Writer → ℕ → ℕ → Tables → Calling → Type 0
WrittenBack w e m t call = (ps : List WriterPiece) (room : List ℕ) → accepted call 0 ps ≡ true →
    let a = writer_account call 0 ps in
    a.report ≡ none → (writer_finish a.state room).answer.refusal ≡ 0 →
    Back w e m t a.state (all_scalars ps) (a.output ++ written (writer_finish a.state room))

-- It reads back, in both modes of the reader: by the writer's calls, and by calls with an index of any cells.
pub record ReadsBack (w : Writer) (e m : ℕ) (t : Tables) : Type 0 where
  pub by_search : WrittenBack w e m t (calls_of e 1 t)
  pub by_index : (index : List ℕ) → WrittenBack w e m t (indexed_calls e 1 t index)
