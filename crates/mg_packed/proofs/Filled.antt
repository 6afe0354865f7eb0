-- Containers that are written piece by piece.
use Rattle.std.proofs.Common.{◌≡◌, ℕ, List, [], ◌∷◌, ◌++◌, false, sym, ap, ◌∙◌, append_assoc, append-nil}
use Rattle.mg_value.specs.Text.{compact}
use Rattle.mg_value.specs.Value.{list, object, Items, Members}
use Rattle.mg_packed.specs.declared.mark.Mark.{Mark}
use Rattle.mg_packed.specs.Tables.{Piece, run, container, tables, item_pieces, member_pieces}
use Rattle.mg_packed.specs.Writing.{IsOpen}
use Rattle.mg_packed.proofs.Parts.{item_texts, member_texts}

-- the same, with the buffers as the code names them
pub open_is : (b0 t0 : List ℕ) (bracket : ℕ) (ps : List Piece) (b t : List ℕ) (begin base : ℕ) (ms : List Mark) (c u : List ℕ) → IsOpen b0 t0 bracket ps b t begin base ms → c ≡ b → u ≡ t → IsOpen b0 t0 bracket ps c u begin base ms
open_is b0 t0 bracket ps b t begin base ms c u h e f = record { text = e ∙ h.text; tables = f ∙ h.tables; marks = h.marks; begun = h.begun; based = h.based }

pub open_kept : (b0 t0 : List ℕ) (bracket : ℕ) (ps : List Piece) (b t : List ℕ) (begin base n m : ℕ) (ms : List Mark) → IsOpen b0 t0 bracket ps b t begin base ms → n ≡ begin → m ≡ base → IsOpen b0 t0 bracket ps b t n m ms
open_kept b0 t0 bracket ps b t begin base n m ms h e f = record { text = h.text; tables = h.tables; marks = h.marks; begun = e ∙ h.begun; based = f ∙ h.based }

pub next_pieces : (ps : List Piece) (p : Piece) (more all : List Piece) → ps ++ p ∷ more ≡ all → (ps ++ p ∷ []) ++ more ≡ all
next_pieces ps p more all e = append_assoc ps (p ∷ []) more ∙ e

pub list_text : (b0 : List ℕ) (ps : List Piece) (vs : Items) (c : List ℕ) → ps ≡ item_pieces vs → c ≡ b0 ++ 91 ∷ (run false ps ++ 93 ∷ []) → c ≡ b0 ++ compact (list vs)
list_text b0 ps vs c e h = h ∙ ap (λ x. b0 ++ 91 ∷ (run false x ++ 93 ∷ [])) e ∙ ap (λ x. b0 ++ 91 ∷ x) (sym (item_texts false vs))

pub list_tables : (t0 : List ℕ) (ps : List Piece) (vs : Items) (u : List ℕ) → ps ≡ item_pieces vs → u ≡ t0 ++ container ps → u ≡ t0 ++ tables (list vs)
list_tables t0 ps vs u e h = h ∙ ap (λ x. t0 ++ container x) e

pub object_text : (b0 : List ℕ) (ps : List Piece) (ms : Members) (c : List ℕ) → ps ≡ member_pieces ms → c ≡ b0 ++ 123 ∷ (run false ps ++ 125 ∷ []) → c ≡ b0 ++ compact (object ms)
object_text b0 ps ms c e h = h ∙ ap (λ x. b0 ++ 123 ∷ (run false x ++ 125 ∷ [])) e ∙ ap (λ x. b0 ++ 123 ∷ x) (sym (member_texts false ms))

pub object_tables : (t0 : List ℕ) (ps : List Piece) (ms : Members) (u : List ℕ) → ps ≡ member_pieces ms → u ≡ t0 ++ container ps → u ≡ t0 ++ tables (object ms)
object_tables t0 ps ms u e h = h ∙ ap (λ x. t0 ++ container x) e

-- all pieces, if none is left
pub all_pieces : (ps all : List Piece) → ps ++ [] ≡ all → ps ≡ all
all_pieces ps all e = sym (append-nil ps) ∙ e
