-- What a server asks of a request's head before it answers it (RFC 9112, sections 3.2 and 3.3; RFC 9110, sections 4.2.1, 7.2 and 9.3.6).
use Rattle.std.specs.Prelude.{◌≡◌, ℕ, Bool, false, true, not, ◌&&◌, ◌||◌, List, length, take, slice_index, nat_lt, ◌==◌, codes, bytes_eq, IsTrue}
use Rattle.std.specs.List.{list_all}
use Rattle.httparse.specs.Grammar.{RequestHead}
use Rattle.http1.specs.Text.{eq_ignore_case}
use Rattle.http1.specs.Framing.{method_kind}
use Rattle.http1.specs.Conn.{is_connect}
use Rattle.http1.specs.Message.{known_of, has_one_host}

-- a request target has no fragment: no `#`
abbrev pub has_no_fragment : List ℕ → Bool
has_no_fragment target = list_all (λ b. not (b == 35)) target

-- origin-form: an absolute path, which begins with `/`, and its query. The grammar of heads says which bytes follow: more than a URI has,
-- since clients send quotes and brackets as they are (RFC 9112, section 3.2.1).
abbrev pub is_origin_form : List ℕ → Bool
is_origin_form target = nat_lt 0 (length target) && ((slice_index target 0 == 47) && has_no_fragment target)

-- a host is not empty: it does not begin with `/`, `?` or `:` (RFC 9110, section 4.2.1)
abbrev pub begins_host : ℕ → Bool
begins_host b = not (b == 47) && (not (b == 63) && not (b == 58))

-- absolute-form: a URI whose scheme is `http`, in any case, and whose host is not empty (RFC 9112, section 3.2.2)
abbrev pub is_absolute_form : List ℕ → Bool
is_absolute_form target =
    nat_lt 7 (length target)
    && (eq_ignore_case (take 7 target) (codes "http://") && (begins_host (slice_index target 7) && has_no_fragment target))

-- asterisk-form: `*`, which only `OPTIONS` has (RFC 9112, section 3.2.4)
abbrev pub is_asterisk_form : List ℕ → List ℕ → Bool
is_asterisk_form method target = bytes_eq method (codes "OPTIONS") && bytes_eq target (codes "*")

-- the target has a form that a request of this method may have
abbrev pub is_target_for : List ℕ → List ℕ → Bool
is_target_for method target = is_origin_form target || (is_absolute_form target || is_asterisk_form method target)

-- the head of a request that is answered
pub record IsProper (h : RequestHead) : Type 0 where
  -- there is exactly one `Host`, which only HTTP/1.0 may leave out (RFC 9112, section 3.2)
  pub host : IsTrue (has_one_host h.minor (known_of h.fields))
  -- the target has a form of RFC 9112, sections 3.2.1, 3.2.2 and 3.2.4
  pub target : is_target_for h.method h.target ≡ true
  -- it asks for no tunnel (RFC 9110, section 9.3.6)
  pub no_tunnel : is_connect (method_kind h.method) ≡ false
