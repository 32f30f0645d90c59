-- Addresses: demand 3 on records, elements, the run of a copy (request 8) and the table of places (request 14).
-- A page behind Demands.antt, made as that one is: each statement under its sentence, each proof a citation. Assumes nothing.
use mathlib.Core.Path.{◌≡◌}
use mathlib.Core.Bool.{Bool, true}
use mathlib.Core.List.{List, [], ◌∷◌}
use Prim.Native.Nat.{ℕ, ◌+◌, ◌*◌, ◌<◌}
use Rattle.refusal.specs.Told.{gives}
use Rattle.refusal.specs.Crossing.{Crosses}
use Rattle.layout.specs.Layout.{judge_of}
use Rattle.layout.specs.declared.Layout.{Layout}
use Rattle.layout.proofs.Window.{form_size}
use Rattle.address.specs.Address.{step_of as row_step_of, layout_of, address_of, run_of, translate_of, locate_of}
use Rattle.address.specs.Inverse.{Accepted, Inside, Inverse}
use Rattle.address.specs.Formula.{printed_address, guide_address}
use Rattle.address.specs.Run.{run_number}
use Rattle.address.proofs.Formula.{address_printed, address_guide}
use Rattle.address.proofs.Inverse.{inverse}
use Rattle.address.proofs.Runs.{run_number_lem, run_back as leads_back}
use Rattle.memory.specs.Bytes.{Touched}
use Rattle.memory.specs.Elements.{read_of, write_of}
use Rattle.memory.specs.Reads.{ReadBack}
use Rattle.memory.specs.Restated.{from_address, read_at, write_at}
use Rattle.memory.proofs.Bytes.{touched}
use Rattle.memory.proofs.ReadBack.{read_back}
use Rattle.memory.proofs.Restated.{read_restated, write_restated}
use Rattle.superfine.specs.InLine.{joined}
use Rattle.superfine.specs.Superfine.{superfine_word, superfine_read_of, format_layout}
use Rattle.superfine.proofs.FourReads.{four_reads}
use Rattle.element_rooms.specs.Rooms.{WriteCrosses}
use Rattle.demands.proofs.Addresses.{accepted_when, when_accepted}
use Rattle.demands.proofs.Elements.{write_done}

-- DEMAND 3

-- It is the address by source 003's columns of bits, linear and tiled.
pub demand3_guide : (l : Layout) → Accepted l → (x y : ℕ) → Inside l x y → address_of l x y ≡ guide_address l x y
demand3_guide = address_guide

pub demand3_address : (l : Layout) → Accepted l → (x y : ℕ) → address_of l x y ≡ printed_address l x y
demand3_address l accepted = address_printed l (form_size l.base.0 l.pitch l.size accepted.form)

-- "Every byte of that element leads back to that pair and to the byte's place in the element. Given any address at all, the way back
-- refuses exactly when no pair inside the window owns the byte there. So two different pairs of one window never share a byte."
pub demand3 : (l : Layout) → Accepted l → Inverse l
demand3 = inverse

-- The same over calls. "A layout .. is accepted when it gets neither 3 nor 6": just where egretfold_layout answers 0.
pub demand3_accepted :
    (base pitch height size : ℕ) (tiled : Bool) {r : ℕ} {room room' : List ℕ} → Crosses (judge_of base pitch height size tiled) r room room' →
    r ≡ 0 → Accepted (layout_of base pitch height size tiled)
demand3_accepted = accepted_when

pub demand3_accepts :
    (base pitch height size : ℕ) (tiled : Bool) {r : ℕ} {room room' : List ℕ} → Crosses (judge_of base pitch height size tiled) r room room' →
    Accepted (layout_of base pitch height size tiled) → r ≡ 0
demand3_accepts = when_accepted

-- ELEMENTS AND WINDOWS

-- A write that answers 0 touches only the part of memory that holds the element: its bytes are those given, and every byte that the pair
-- doesn't own is as before.
pub element_bytes :
    (l : Layout) (x y at : ℕ) (given before now : List ℕ) → WriteCrosses l x y at given 0 before now → Touched l x y at given before now
element_bytes l x y at given before now c = touched l x y at given before now (write_done l x y at given before now c)

-- So a read of that pair gives what was written, and a read of any other pair of the window answers as before.
pub element_reads :
    (l : Layout) (x y at : ℕ) (given before now : List ℕ) → WriteCrosses l x y at given 0 before now → ReadBack l x y at given before now
element_reads l x y at given before now c = read_back l x y at given before now (write_done l x y at given before now c)

-- The superfine read is four reads: (x+1, y), (x, y+1), (x+1, y+1), (x, y), in that order into channels 0 to 3.
pub superfine_reads :
    (base format height x y at : ℕ) (m : List ℕ) → superfine_word base format ≡ true →
    superfine_read_of base format height x y at m ≡
    joined (read_of (format_layout base format height) (x + 1) y at m)
    (joined (read_of (format_layout base format height) x (y + 1) at m)
    (joined (read_of (format_layout base format height) (x + 1) (y + 1) at m) (read_of (format_layout base format height) x y at m)))
superfine_reads = four_reads

-- REQUEST 8, "How far may a copy run?"

-- "Linear: E - x." Where tiled it is g - x mod g, with g = 8, 4, 4, 2 and 4 for the five sizes.
pub run_formula :
    (l : Layout) → Accepted l → (x y : ℕ) → Inside l x y → run_of l x y ≡ run_number l.tiled l.size (row_step_of l) x
run_formula = run_number_lem

-- "Superfine reads, element writes and the way back keep their answers, restated over the new one." A read and a write answer the
-- translation's refusal, or what memory makes of its address; a superfine read is four reads (`superfine_reads`).
pub run_reads :
    (l : Layout) (x y at : ℕ) (m : List ℕ) → read_of l x y at m ≡ from_address (translate_of l x y) (read_at at m l.size)
run_reads = read_restated

pub run_writes :
    (l : Layout) (x y at : ℕ) (given m : List ℕ) →
    write_of l x y at given m ≡ from_address (translate_of l x y) (write_at at given m l.size)
run_writes = write_restated

-- Every byte of every element of a run leads back to that element's pair and to its place there.
pub run_back :
    (l : Layout) → Accepted l → (x y : ℕ) → Inside l x y → (k place : ℕ) → k < run_of l x y → place < l.size →
    locate_of l (address_of l x y + k * l.size + place) ≡ gives ((x + k) ∷ y ∷ place ∷ [])
run_back = leads_back
