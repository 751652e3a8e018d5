-- Each case, computed.
use Rattle.std.proofs.Common.{◌≡◌, ℕ, ◌+◌, ◌&&◌, leb, List, [], ◌∷◌, codes, refl, ap, arith}
use lib.Utf8.{encode}
use Rattle.std.specs.Str.{chars}
use Rattle.packetline.specs.Packets.{digits, front, decode}
use Rattle.packetline.specs.Text.{is_number, utf8, trim_end}
use Rattle.packetline.specs.Lines.{after_prefix, NotAfter}
use Rattle.worked.specs.Worked.{Worked}

not_none : ◌≡◌ {A = List (List ℕ)} (codes "hello" ∷ []) [] → ⊥
not_none e = let z : ◌≡◌ {A = ℕ} 0 1 = cc in omega arith

no_status : NotAfter (codes "hello") (codes "status=")
no_status rest e = let z : ◌≡◌ {A = ℕ} 104 115 = cc in omega arith

pub worked : Worked
unfolding is_number front decode utf8 trim_end after_prefix chars encode
worked =
    record {
      a_frames = refl;
      most = λ payload e. (ap (λ n. leb 1 n && leb n 65516) e, ap (λ n. digits (n + 4)) e);
      none = λ payload e. ap (λ n. leb 1 n && leb n 65516) e;
      too_many = λ payload e. ap (λ n. leb 1 n && leb n 65516) e;
      fff1 = refl;
      four = refl;
      three = refl;
      plus_two = refl;
      two_to_the_64th = refl;
      first_sign = refl;
      flush_alone = (_, refl, record { lines = []; are = refl; texts = refl; value = refl; tells = refl });
      hello = (_, refl, record { lines = codes "hello" ∷ []; are = refl; texts = refl; value = refl; tells = (not_none, (no_status, tt)) });
      last_wins = (
        _,
        refl,
        record {
          lines = codes "status=success" ∷ codes "status=error" ∷ [];
          are = refl;
          texts = refl;
          value = refl;
          tells = (codes "status=success" ∷ [], (codes "error", ([], refl, tt, refl)));
        },
      );
    }
