-- The date of a response is a field that can be sent.
use Rattle.std.proofs.Common.{◌≡◌, ℕ, zero, suc, ◌+◌, ◌/◌, ◌%◌, ◌<◌, ◌≤◌, true, not, List, ◌∷◌, ◌++◌, length, drop, Option, Some, None, MatchOption, length-append, refl, ap, ◌∙◌, arith}
use Rattle.std.specs.Prelude.{codes}
use Rattle.std.specs.Int.{IsInRange}
use Rattle.std.proofs.lemmas.Bool.{and_from}
use Rattle.std.proofs.lemmas.Bool.Decides.{nat_tests}
use Rattle.std.proofs.lemmas.List.{reverse-append}
use Rattle.httparse.specs.Grammar.{is_token, is_token_byte, is_value_byte}
use Rattle.http1.specs.Text.{eq_ignore_case}
use Rattle.http1.specs.Fields.{Header, is_framing_field}
use Rattle.http1.specs.Head.{is_field_value, starts_visible, is_trimmed_value, is_header}
use Rattle.http1.proofs.TextLemmas.{list_all-append}
use Rattle.httpdate.specs.declared.date.HttpDate.{HttpDate as Date}
use Rattle.httpdate.specs.declared.parts.Parts.{Parts}
use Rattle.httpdate.specs.Date.{date_text}
use Rattle.httpdate.specs.Text.{day_name, month_name, two_digits, four_digits, time_of_day, imf_fixdate}
use Rattle.httpdate.specs.Valid.{IsValid}
use Rattle.httpdate.proofs.FormatLemmas.{imf_fixdate_grouped}
use Rattle.mg_wire.specs.Sendable.{is_sendable, are_sendable, lines_len}
use Rattle.mg_wire.specs.Response.{date_field, date_fields}
use Rattle.mg_wire.specs.Reply.{first_of}

-- so many bytes, which a value may have
record IsPart (len : ℕ) (xs : List ℕ) : Type 0 where
  valid : is_field_value xs ≡ true
  long : length xs ≡ len

joined : (m n : ℕ) (xs ys : List ℕ) → IsPart m xs → IsPart n ys → IsPart (m + n) (xs ++ ys)
joined m n xs ys x y = record {
  valid = list_all-append is_value_byte xs ys ∙ and_from _ _ x.valid y.valid;
  long = length-append xs ys ∙ (λ i. x.long i + y.long i);
}

digit : (n : ℕ) → n < 10 → is_value_byte (48 + n) ≡ true
digit n small = grind (arith, nat_tests)

two : (n : ℕ) → n < 100 → IsPart 2 (two_digits n)
two n small = record {
  valid = and_from _ _ (digit (n / 10) (omega arith)) (and_from _ _ (digit (n % 10) (omega arith)) refl);
  long = refl;
}

four : (n : ℕ) → n ≤ 9999 → IsPart 4 (four_digits n)
four n small = joined 2 2 _ _ (two (n / 100) (omega arith)) (two (n % 100) (omega arith))

day : (n : ℕ) → IsInRange 1 7 n → IsPart 3 (day_name n)
day (suc zero) h = record { valid = refl; long = refl }
day (suc (suc zero)) h = record { valid = refl; long = refl }
day (suc (suc (suc zero))) h = record { valid = refl; long = refl }
day (suc (suc (suc (suc zero)))) h = record { valid = refl; long = refl }
day (suc (suc (suc (suc (suc zero))))) h = record { valid = refl; long = refl }
day (suc (suc (suc (suc (suc (suc zero)))))) h = record { valid = refl; long = refl }
day (suc (suc (suc (suc (suc (suc (suc zero))))))) h = record { valid = refl; long = refl }
day zero h = absurd (omega arith)
day (suc (suc (suc (suc (suc (suc (suc (suc n)))))))) h = absurd (omega arith)

starts : (n : ℕ) (rest : List ℕ) → IsInRange 1 7 n → starts_visible (day_name n ++ rest) ≡ true
starts (suc zero) rest h = refl
starts (suc (suc zero)) rest h = refl
starts (suc (suc (suc zero))) rest h = refl
starts (suc (suc (suc (suc zero)))) rest h = refl
starts (suc (suc (suc (suc (suc zero))))) rest h = refl
starts (suc (suc (suc (suc (suc (suc zero)))))) rest h = refl
starts (suc (suc (suc (suc (suc (suc (suc zero))))))) rest h = refl
starts zero rest h = absurd (omega arith)
starts (suc (suc (suc (suc (suc (suc (suc (suc n)))))))) rest h = absurd (omega arith)

month : (n : ℕ) → IsInRange 1 12 n → IsPart 3 (month_name n)
month (suc zero) h = record { valid = refl; long = refl }
month (suc (suc zero)) h = record { valid = refl; long = refl }
month (suc (suc (suc zero))) h = record { valid = refl; long = refl }
month (suc (suc (suc (suc zero)))) h = record { valid = refl; long = refl }
month (suc (suc (suc (suc (suc zero))))) h = record { valid = refl; long = refl }
month (suc (suc (suc (suc (suc (suc zero)))))) h = record { valid = refl; long = refl }
month (suc (suc (suc (suc (suc (suc (suc zero))))))) h = record { valid = refl; long = refl }
month (suc (suc (suc (suc (suc (suc (suc (suc zero)))))))) h = record { valid = refl; long = refl }
month (suc (suc (suc (suc (suc (suc (suc (suc (suc zero))))))))) h = record { valid = refl; long = refl }
month (suc (suc (suc (suc (suc (suc (suc (suc (suc (suc zero)))))))))) h = record { valid = refl; long = refl }
month (suc (suc (suc (suc (suc (suc (suc (suc (suc (suc (suc zero))))))))))) h = record { valid = refl; long = refl }
month (suc (suc (suc (suc (suc (suc (suc (suc (suc (suc (suc (suc zero)))))))))))) h = record { valid = refl; long = refl }
month zero h = absurd (omega arith)
month (suc (suc (suc (suc (suc (suc (suc (suc (suc (suc (suc (suc (suc n))))))))))))) h = absurd (omega arith)

blank : IsPart 1 (codes " ")
blank = record { valid = refl; long = refl }

colon : IsPart 1 (codes ":")
colon = record { valid = refl; long = refl }

module _ (p : Parts) (h : IsValid p) where
  weekday_in : IsInRange 1 7 p.wday
  weekday_in = omega arith

  clock : IsPart 8 (time_of_day p)
  clock =
      joined 6 2 _ _
      (joined 5 1 _ _ (joined 3 2 _ _ (joined 2 1 _ _ (two p.hour (omega arith)) colon) (two p.min (omega arith))) colon) (two p.sec (omega arith))

  day_of_month : p.day < 100
  day_of_month = grind (arith, h.0.2.1)

  calendar_day : IsPart 16 (day_name p.wday ++ codes ", " ++ two_digits p.day ++ codes " " ++ month_name p.mon ++ codes " " ++ four_digits p.year)
  calendar_day =
      joined 12 4 _ _
      (joined 11 1 _ _
      (joined 8 3 _ _
      (joined 7 1 _ _
      (joined 5 2 _ _ (joined 3 2 _ _ (day p.wday weekday_in) (record { valid = refl; long = refl })) (two p.day day_of_month)) blank)
      (month p.mon h.0.1)) blank) (four p.year (omega arith))

  whole : IsPart 29 (imf_fixdate p)
  whole = joined 25 4 _ _ (joined 17 8 _ _ (joined 16 1 _ _ calendar_day blank) clock) (record { valid = refl; long = refl })

  trimmed : is_trimmed_value (imf_fixdate p) ≡ true
  trimmed =
      let front = day_name p.wday ++ codes ", " ++ two_digits p.day ++ codes " " ++ month_name p.mon ++ codes " " ++ four_digits p.year ++ codes " " ++ time_of_day p in
      and_from _ _ (ap starts_visible (imf_fixdate_grouped p) ∙ starts p.wday _ weekday_in)
      (and_from _ _ (ap starts_visible (reverse-append front (codes " GMT"))) whole.valid)

valid : (d : Date) → IsValid d.parts
valid d = (d.civil, d.time, d.right_day)

date_sendable : (d : Date) → is_sendable (date_field d) ≡ true
unfolding is_token_byte eq_ignore_case
date_sendable d =
    and_from (is_header (date_field d)) (not (is_framing_field (date_field d)))
    (and_from (is_token (codes "date")) (is_trimmed_value (date_text d)) refl (trimmed d.parts (valid d))) refl

line_before : (h : Header) (hs : List Header) → lines_len (h ∷ hs) ≡ (length h.0 + length h.1 + 4) + lines_len hs
line_before h hs = omega (arith, length-append {A = ℕ})

-- a date and the fields that were added can be sent, and are short
pub dated_sendable : (date : Option Date) (hs : List Header) → are_sendable hs ≡ true → are_sendable (date_fields date ++ hs) ≡ true
dated_sendable None hs all = all
dated_sendable (Some d) hs all = and_from _ _ (date_sendable d) all

pub dated_short : (date : Option Date) (hs : List Header) → lines_len hs ≤ 7680 → lines_len (date_fields date ++ hs) ≤ 7717
dated_short None hs short = omega arith
dated_short (Some d) hs short = omega (arith, line_before (date_field d) hs, (whole d.parts (valid d)).long, short)

-- they are what follows the place where they begin
pub dated : (date : Option Date) (text : List ℕ) (hs : List Header) → MatchOption date (Unit {0}) (λ d. text ≡ date_text d)
    → drop (first_of date) ((codes "date", text) ∷ hs) ≡ date_fields date ++ hs
dated None text hs is = refl
dated (Some d) text hs is = ap (λ (t : List ℕ). (codes "date", t) ∷ hs) is
