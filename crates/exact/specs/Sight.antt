-- What a reader sees of a code, and how it goes on: bytes read as they are needed, a pel told, its part taken. Assumes
-- nothing.
use Rattle.std.specs.Prelude.{ℕ, zero, suc, ◌+◌, ◌-◌, ◌*◌, ◌%◌, ◌^◌, Bool, cond, not, List, drop, get_or, ltb, eqb}
use Rattle.octets.specs.Octets.{bits}

-- width: the width. x: the bits of the code that are read, less the lower end; look: how many of them lie past the
-- lower end's last bit.
-- last: the byte last read. unread: the bytes to come.
pub record Sight : Type 0 where
  pub width : ℕ
  pub x : ℕ
  pub look : ℕ
  pub last : ℕ
  pub unread : List ℕ

-- two bytes: 16 bits, or 15 after FF, of which 12 are the lower end's
abbrev pub opened : List ℕ → Sight
opened code =
    record {
      width = 0x1000;
      x = get_or code 0 0 * 2 ^ bits (get_or code 0 0) + get_or code 1 0;
      look = bits (get_or code 0 0) - 4;
      last = get_or code 1 0;
      unread = drop 2 code;
    }

-- one byte more (past the end a byte is 0). The remainder does nothing on a written code; on another it keeps x in a
-- register
abbrev pub more : Sight → Sight
more r = record {
  width = r.width;
  x = (r.x * 2 ^ bits r.last + get_or r.unread 0 0) % 2 ^ 32;
  look = r.look + bits r.last;
  last = get_or r.unread 0 0;
  unread = drop 1 r.unread;
}

abbrev pub nearer : Sight → Sight
nearer r = record { width = 2 * r.width; x = r.x; look = r.look - 1; last = r.last; unread = r.unread }

unfoldable pub supplied : Sight → Sight
supplied r = let v : Sight = more r in cond (eqb r.look 0) v r

unfoldable pub seek : ℕ → Sight → Sight
seek zero r = r
seek (suc n) r = let v : Sight = seek n (nearer (supplied r)) in cond (ltb r.width 0x1000) v r

-- the pel is the unexpected one if x lies in the lower part
unfoldable pub decide : ℕ → Sight → Bool
decide q r = not (ltb r.x (q * 2 ^ r.look))

abbrev pub above : ℕ → Sight → Sight
above q r = record {
  width = r.width - q;
  x = r.x - q * 2 ^ r.look;
  look = r.look;
  last = r.last;
  unread = r.unread;
}

abbrev pub under : ℕ → Sight → Sight
under q r = record { width = q; x = r.x; look = r.look; last = r.last; unread = r.unread }

abbrev pub taken : ℕ → Bool → Sight → Sight
taken q e r = cond e (above q r) (under q r)
