-- The text of a reply (RFC 9112, section 4): a status line, the type and the length of the body, and the body.
use Rattle.std.specs.Prelude.{ℕ, Bool, List, [], ◌++◌, length, codes, decimal, Option, unwrap_or, nat_le, nat_lt, ◌&&◌, if◌then◌else◌}
use Rattle.http.specs.StatusCode.{reason_phrase}
use Rattle.mg_engine.specs.declared.refusal.Refusal.TheVariants.{OutOfMemory}
use Rattle.mg_engine.specs.Commands.{Answer, refused}

-- the standard reason phrase of a status; empty if it has none, or has not three digits
abbrev pub phrase_of : ℕ → List ℕ
phrase_of status =
    if nat_le 100 status && nat_lt status 1000 then unwrap_or (reason_phrase status) [] else []

-- the status line, the fields and the body, from their parts
unfoldable pub text_with : List ℕ → List ℕ → List ℕ → List ℕ → List ℕ
text_with code phrase size body =
    codes "HTTP/1.1 " ++ (code ++ (codes " " ++ (phrase
    ++ (codes "\r\nContent-Type: application/json\r\nContent-Length: " ++ (size ++ (codes "\r\n\r\n" ++ body))))))

-- the bytes of a reply; one that omits its body still gives its length
abbrev pub text_of : Bool → Answer → List ℕ
text_of omits_body a =
    text_with (decimal a.status) (phrase_of a.status) (decimal (length a.body)) (if omits_body then [] else a.body)

-- the bytes of a service's answer; `None`: out of memory
abbrev pub reply_text : Bool → Option Answer → List ℕ
reply_text omits_body reply = text_of omits_body (unwrap_or reply (refused OutOfMemory))
