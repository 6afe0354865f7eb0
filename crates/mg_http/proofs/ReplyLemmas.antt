-- The phrases of statuses.
use Rattle.std.proofs.Common.{◌≡◌, ◌≤◌, ◌&&◌, ◌==◌, ℕ, Bool, true, false, codes, List, [], length, Option, Some, None, refl, arith, cond, nat_le, nat_lt}
use Rattle.std.specs.Prelude.{option_map, unwrap_or}
use Rattle.http.specs.StatusCode.{reason_phrase}
use Rattle.mg_http.specs.Reply.{phrase_of}

-- the image of what is found, or of a default whose image is the empty one
pub found_or_nothing : {X : Type 0} (f : X → List ℕ) (r : Option X) (d : X) (o : Option (List ℕ)) (none : List ℕ) → option_map f r ≡ o
    → f d ≡ none → f (unwrap_or r d) ≡ unwrap_or o none
found_or_nothing f None d o none e z = rw (← e) z
found_or_nothing f (Some x) d o none e z = rw (← e) refl

record IsShort (o : Option (List ℕ)) : Type 0 where
  fits : length (unwrap_or o []) ≤ 40

one_of : (b : Bool) (x : List ℕ) (o : Option (List ℕ)) → length x ≤ 40 → IsShort o → IsShort (cond b (Some x) o)
one_of true x o h k = record { fits = h }
one_of false x o h k = k

reason_short : (n : ℕ) → IsShort (reason_phrase n)
reason_short n = one_of (n == 100) (codes "Continue") _ (omega arith) (one_of (n == 101) (codes "Switching Protocols") _ (omega arith) (one_of (n == 102) (codes "Processing") _ (omega arith) (one_of (n == 103) (codes "Early Hints") _ (omega arith) (one_of (n == 200) (codes "OK") _ (omega arith) (one_of (n == 201) (codes "Created") _ (omega arith) (one_of (n == 202) (codes "Accepted") _ (omega arith) (one_of (n == 203) (codes "Non Authoritative Information") _ (omega arith) (one_of (n == 204) (codes "No Content") _ (omega arith) (one_of (n == 205) (codes "Reset Content") _ (omega arith) (one_of (n == 206) (codes "Partial Content") _ (omega arith) (one_of (n == 207) (codes "Multi-Status") _ (omega arith) (one_of (n == 208) (codes "Already Reported") _ (omega arith) (one_of (n == 226) (codes "IM Used") _ (omega arith) (one_of (n == 300) (codes "Multiple Choices") _ (omega arith) (one_of (n == 301) (codes "Moved Permanently") _ (omega arith) (one_of (n == 302) (codes "Found") _ (omega arith) (one_of (n == 303) (codes "See Other") _ (omega arith) (one_of (n == 304) (codes "Not Modified") _ (omega arith) (one_of (n == 305) (codes "Use Proxy") _ (omega arith) (one_of (n == 307) (codes "Temporary Redirect") _ (omega arith) (one_of (n == 308) (codes "Permanent Redirect") _ (omega arith) (one_of (n == 400) (codes "Bad Request") _ (omega arith) (one_of (n == 401) (codes "Unauthorized") _ (omega arith) (one_of (n == 402) (codes "Payment Required") _ (omega arith) (one_of (n == 403) (codes "Forbidden") _ (omega arith) (one_of (n == 404) (codes "Not Found") _ (omega arith) (one_of (n == 405) (codes "Method Not Allowed") _ (omega arith) (one_of (n == 406) (codes "Not Acceptable") _ (omega arith) (one_of (n == 407) (codes "Proxy Authentication Required") _ (omega arith) (one_of (n == 408) (codes "Request Timeout") _ (omega arith) (one_of (n == 409) (codes "Conflict") _ (omega arith) (one_of (n == 410) (codes "Gone") _ (omega arith) (one_of (n == 411) (codes "Length Required") _ (omega arith) (one_of (n == 412) (codes "Precondition Failed") _ (omega arith) (one_of (n == 413) (codes "Payload Too Large") _ (omega arith) (one_of (n == 414) (codes "URI Too Long") _ (omega arith) (one_of (n == 415) (codes "Unsupported Media Type") _ (omega arith) (one_of (n == 416) (codes "Range Not Satisfiable") _ (omega arith) (one_of (n == 417) (codes "Expectation Failed") _ (omega arith) (one_of (n == 418) (codes "I'm a teapot") _ (omega arith) (one_of (n == 421) (codes "Misdirected Request") _ (omega arith) (one_of (n == 422) (codes "Unprocessable Entity") _ (omega arith) (one_of (n == 423) (codes "Locked") _ (omega arith) (one_of (n == 424) (codes "Failed Dependency") _ (omega arith) (one_of (n == 425) (codes "Too Early") _ (omega arith) (one_of (n == 426) (codes "Upgrade Required") _ (omega arith) (one_of (n == 428) (codes "Precondition Required") _ (omega arith) (one_of (n == 429) (codes "Too Many Requests") _ (omega arith) (one_of (n == 431) (codes "Request Header Fields Too Large") _ (omega arith) (one_of (n == 451) (codes "Unavailable For Legal Reasons") _ (omega arith) (one_of (n == 500) (codes "Internal Server Error") _ (omega arith) (one_of (n == 501) (codes "Not Implemented") _ (omega arith) (one_of (n == 502) (codes "Bad Gateway") _ (omega arith) (one_of (n == 503) (codes "Service Unavailable") _ (omega arith) (one_of (n == 504) (codes "Gateway Timeout") _ (omega arith) (one_of (n == 505) (codes "HTTP Version Not Supported") _ (omega arith) (one_of (n == 506) (codes "Variant Also Negotiates") _ (omega arith) (one_of (n == 507) (codes "Insufficient Storage") _ (omega arith) (one_of (n == 508) (codes "Loop Detected") _ (omega arith) (one_of (n == 510) (codes "Not Extended") _ (omega arith) (one_of (n == 511) (codes "Network Authentication Required") None (omega arith) (record { fits = omega arith }))))))))))))))))))))))))))))))))))))))))))))))))))))))))))))))

pub phrase_short : (status : ℕ) → length (phrase_of status) ≤ 40
phrase_short status =
    elim (nat_le 100 status && nat_lt status 1000) as (λ b. length (cond b (unwrap_or (reason_phrase status) []) []) ≤ 40) [
      | true ↦ (reason_short status).fits
      | false ↦ omega arith
    ]
