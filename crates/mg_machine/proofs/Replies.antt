-- Replies to events that are replayed one after another.
use Rattle.std.proofs.Common.{◌≡◌, ◌+◌, ◌<◌, ◌≤◌, ℕ, zero, suc, List, [], ◌∷◌, ◌++◌, Option, is_some, length, get_or, map, option_and_then, take, refl, ap, sym, ◌∙◌, subst, arith}
use Rattle.std.proofs.lemmas.List.{map-append, map_more, take_all}
use Rattle.mg_engine.specs.Commands.{Answer}
use Rattle.mg_engine.specs.View.{reply_view}
use Rattle.mg_engine.specs.declared.reply.Reply.{Reply}
use Rattle.mg_machine.specs.Machine.{Event, Machine, happens, machine_after, replies_of_events}
use Rattle.mg_machine.specs.Laws.{AreAt, IsAt}
use Rattle.mg_machine.specs.View.{event_view, events_view}
use Rattle.mg_machine.specs.declared.interleave.Event as code
use Rattle.mg_machine.proofs.Events.{after-append}

-- ---- events of the code

-- the first i + 1 events are the first i and the event i
pub seen_more : (es : List code.Event) (i : ℕ) (e : code.Event) → i < length es → e ≡ get_or es i e → events_view (take (i + 1) es) ≡ events_view (take i es) ++ event_view e ∷ []
seen_more es i e here is = map_more event_view es i e here ∙ ap (λ x. events_view (take i es) ++ event_view x ∷ []) (sym is)

-- the first i events are all events, if there are no more than i
pub seen_all : (es : List code.Event) (i : ℕ) → length es ≤ i → events_view (take i es) ≡ events_view es
seen_all es i over = ap events_view (take_all i es over)

item_at : (seats : ℕ) (es : List code.Event) (i : ℕ) (d : code.Event) → AreAt seats (events_view es) → i < length es → IsAt seats (event_view (get_or es i d))
item_at seats [] i d at here = absurd (omega (arith, here))
item_at seats (e ∷ es) zero d at here = at.0
item_at seats (e ∷ es) (suc n) d at here = item_at seats es n d at.1 (omega (arith, here))

-- each event is at one of the seats
pub event_at : (seats : ℕ) (es : List code.Event) (i : ℕ) (e : code.Event) → AreAt seats (events_view es) → i < length es → e ≡ get_or es i e → IsAt seats (event_view e)
event_at seats es i e at here is = subst (λ (x : code.Event). IsAt seats (event_view x)) (sym is) (item_at seats es i e at here)

at_both : (seats : ℕ) (es : List Event) (e : Event) → AreAt seats es → IsAt seats e → AreAt seats (es ++ e ∷ [])
at_both seats [] e at here = (here, tt)
at_both seats (d ∷ es) e at here = (at.0, at_both seats es e at.1 here)

-- if the first i events are at the seats, and the event i is, the first i + 1 are
pub at_more : (seats : ℕ) (es : List code.Event) (i : ℕ) (e : code.Event) → i < length es → e ≡ get_or es i e
    → AreAt seats (events_view (take i es)) → IsAt seats (event_view e) → AreAt seats (events_view (take (i + 1) es))
at_more seats es i e below is at here = subst (AreAt seats) (sym (seen_more es i e below is)) (at_both seats (events_view (take i es)) (event_view e) at here)

-- ---- one more event

-- the machine and the reply after an event that follows these events
abbrev pub happens_after : List ℕ → Machine → List Event → Event → Machine × Option Answer
happens_after name m es e = happens name (machine_after name m es) e

-- the machine after one more event
pub machine_more : (name : List ℕ) (m : Machine) (es more : List Event) (e : Event) → more ≡ es ++ e ∷ [] → machine_after name m more ≡ (happens_after name m es e).0
machine_more name m es more e is = ap (machine_after name m) is ∙ after-append name m es (e ∷ [])

replies_more : (name : List ℕ) (m : Machine) (es : List Event) (e : Event) → replies_of_events name m (es ++ e ∷ []) ≡ replies_of_events name m es ++ (happens_after name m es e).1 ∷ []
replies_more name m [] e = refl
replies_more name m (d ∷ es) e = ap (λ rs. (happens name m d).1 ∷ rs) (replies_more name (happens name m d).0 es e)

-- the replies, with the reply to one more event
pub said_more : (name : List ℕ) (m : Machine) (es more : List Event) (e : Event) (rs new : List (Option Reply)) (r : Option Reply) → more ≡ es ++ e ∷ [] → new ≡ rs ++ r ∷ []
    → option_and_then reply_view r ≡ (happens_after name m es e).1 → map (option_and_then reply_view) rs ≡ replies_of_events name m es → map (option_and_then reply_view) new ≡ replies_of_events name m more
said_more name m es more e rs new r is now one before =
    ap (map (option_and_then reply_view)) now ∙ map-append (option_and_then reply_view) rs (r ∷ []) ∙ ap (λ l. l ++ option_and_then reply_view r ∷ []) before
    ∙ ap (λ a. replies_of_events name m es ++ a ∷ []) one ∙ sym (replies_more name m es e) ∙ ap (replies_of_events name m) (sym is)

-- which events have a reply, with one more event
pub some_more : (name : List ℕ) (m : Machine) (es more : List Event) (e : Event) (rs new : List (Option Reply)) (r : Option Reply) → more ≡ es ++ e ∷ [] → new ≡ rs ++ r ∷ []
    → is_some r ≡ is_some (happens_after name m es e).1 → map is_some rs ≡ map is_some (replies_of_events name m es) → map is_some new ≡ map is_some (replies_of_events name m more)
some_more name m es more e rs new r is now one before =
    ap (map is_some) now ∙ map-append is_some rs (r ∷ []) ∙ ap (λ l. l ++ is_some r ∷ []) before
    ∙ ap (λ b. map is_some (replies_of_events name m es) ++ b ∷ []) one ∙ sym (map-append is_some (replies_of_events name m es) ((happens_after name m es e).1 ∷ []))
    ∙ ap (map is_some) (sym (replies_more name m es e) ∙ ap (replies_of_events name m) (sym is))
