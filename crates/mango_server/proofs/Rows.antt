-- Rows and the writes that they are the texts of.
use Rattle.std.proofs.Common.{List, [], ◌∷◌, ◌++◌, IsTrue}
use Rattle.sqlite.specs.Store.{Ghosts}
use Rattle.mg_engine.specs.Commands.{Asked}
use Rattle.mg_log.specs.Entry.{Entry}
use Rattle.mg_log.specs.Log.{connection_of, IsHonest, Keeps}
use Rattle.mg_log.specs.declared.log.Log.{Log}
use Rattle.mango_server.specs.Kept.{AreRowsOf, HasRowsOf, IsRowOf}

pub one_more_row : (es : List Entry) (cs : List Asked) (e : Entry) (c : Asked) → AreRowsOf es cs → IsRowOf e c → AreRowsOf (es ++ e ∷ []) (cs ++ c ∷ [])
one_more_row [] [] e c are is = (is, tt)
one_more_row [] (d ∷ cs) e c are is = absurd are
one_more_row (f ∷ es) [] e c are is = absurd are
one_more_row (f ∷ es) (d ∷ cs) e c are is = (are.0, one_more_row es cs e c are.1 is)

module _ {S : Type 0} {g : Ghosts S} where
  -- a log that got the row of one more write
  pub kept_row : (before after : Log S g) (cs : List Asked) (c : Asked) (e : Entry) → HasRowsOf before cs → IsRowOf e c → (IsHonest g after → IsHonest g before) → (IsHonest g after → IsTrue (connection_of g before).is_open)
      → (IsHonest g after → (es : List Entry) → Keeps g before es → Keeps g after (es ++ e ∷ [])) → HasRowsOf after (cs ++ c ∷ [])
  kept_row before after cs c e has is honest was_open adds = record {
    rows = has.rows ++ e ∷ [];
    are = one_more_row has.rows cs e c has.are is;
    kept = λ now is_open. adds now has.rows (has.kept (honest now) (was_open now));
  }

  -- a log that was refused memory
  pub same_rows : (before after : Log S g) (cs : List Asked) → HasRowsOf before cs → (IsHonest g after → IsHonest g before) → (IsHonest g after → IsTrue (connection_of g after).is_open → IsTrue (connection_of g before).is_open)
      → (IsHonest g after → (es : List Entry) → Keeps g before es → IsTrue (connection_of g after).is_open → Keeps g after es) → HasRowsOf after cs
  same_rows before after cs has honest was_open stays = record {
    rows = has.rows;
    are = has.are;
    kept = λ now is_open. stays now has.rows (has.kept (honest now) (was_open now is_open)) is_open;
  }
