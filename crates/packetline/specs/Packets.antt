-- The packet-line format: four hexadecimal digits give a packet's length with themselves, and its payload follows.
-- From gitprotocol-common (pkt-line), and gitprotocol-v2 for the two markers. What these leave open is told in docs/PROTOCOL.md, Packets.
use Rattle.std.specs.Prelude.{◌≡◌, ℕ, zero, suc, ◌+◌, ◌-◌, ◌*◌, ◌/◌, ◌%◌, Bool, true, cond, ◌&&◌, List, [], ◌∷◌, ◌++◌, map, length, take, drop, Some, None, Ok, Err, codes, Option, Result, ◌==◌, nat_le, nat_lt, slice_index}
use Rattle.packetline.specs.declared.packet.Packet.{Packet}
use Rattle.packetline.specs.declared.packet.Packet.TheVariants.{Flush, Delimiter, ResponseEnd, Data}

-- Headers

-- the value of a hexadecimal digit of either case
abbrev pub digit : ℕ → Option ℕ
digit b =
    cond (nat_le 48 b && nat_le b 57) (Some (b - 48)) (cond (nat_le 65 b && nat_le b 70) (Some (b - 55)) (cond (nat_le 97 b && nat_le b 102) (Some (b - 87)) None))

-- the number that four digits spell
abbrev pub of_digits : Option ℕ → Option ℕ → Option ℕ → Option ℕ → Option ℕ
of_digits (Some a) (Some b) (Some c) (Some d) = Some (a * 4096 + b * 256 + c * 16 + d)
of_digits (Some a) (Some b) (Some c) None = None
of_digits (Some a) (Some b) None d = None
of_digits (Some a) None c d = None
of_digits None b c d = None

-- the number that the first four bytes spell
abbrev pub number : List ℕ → Option ℕ
number bytes = of_digits (digit (slice_index bytes 0)) (digit (slice_index bytes 1)) (digit (slice_index bytes 2)) (digit (slice_index bytes 3))

-- what a length says: 0 is a flush, 1 and 2 are the markers, 5 to 65,520 announce a payload; any other is refusal 20
abbrev pub announced : ℕ → Result (Packet ℕ) ℕ
announced n =
    cond (n == 0) (Ok Flush) (cond (n == 1) (Ok Delimiter) (cond (n == 2) (Ok ResponseEnd)
    (cond (nat_le 5 n && nat_le n 65520) (Ok (Data (n - 4))) (Err 20))))

-- what the first four bytes say as a header
abbrev pub heading : Option ℕ → Result (Packet ℕ) ℕ
heading (Some n) = announced n
heading None = Err 20

abbrev pub header : List ℕ → Result (Packet ℕ) ℕ
header bytes = heading (number bytes)

-- a digit in lower case
abbrev pub hex_char : ℕ → ℕ
hex_char d = cond (nat_lt d 10) (d + 48) (d + 87)

-- the four digits of n, in lower case
abbrev pub digits : ℕ → List ℕ
digits n = hex_char (n / 4096) ∷ hex_char (n / 256 % 16) ∷ hex_char (n / 16 % 16) ∷ hex_char (n % 16) ∷ []

-- Packets

-- a packet with its payload; delimiter and response end are the markers
pub data Pkt : Type 0 where
  flush delimiter response_end : Pkt
  line : List ℕ → Pkt

-- a payload that can be framed has 1 to 65,516 bytes
abbrev pub framable : List ℕ → Bool
framable payload = nat_le 1 (length payload) && nat_le (length payload) 65516

-- a packet that can be sent
abbrev pub sendable : Pkt → Bool
sendable flush = true
sendable delimiter = true
sendable response_end = true
sendable (line payload) = framable payload

-- the bytes of a packet
abbrev pub packet : Pkt → List ℕ
packet flush = codes "0000"
packet delimiter = codes "0001"
packet response_end = codes "0002"
packet (line payload) = digits (length payload + 4) ++ payload

-- a text line's packet: the line goes out as given, no LF added
abbrev pub line_pkt : List ℕ → Pkt
line_pkt text = line text

-- Reading

-- how many bytes of payload follow a header
abbrev pub payload_length : Packet ℕ → ℕ
payload_length Flush = 0
payload_length Delimiter = 0
payload_length ResponseEnd = 0
payload_length (Data n) = n

-- the packet that a header announces, with its payload at the front of bytes
abbrev pub with_payload : Packet ℕ → List ℕ → Pkt
with_payload Flush bytes = flush
with_payload Delimiter bytes = delimiter
with_payload ResponseEnd bytes = response_end
with_payload (Data n) bytes = line (take n bytes)

-- what stands first in a byte string: a whole packet, its bytes and what follows; four bytes that are no header and what follows; or less than a packet
pub data Front : Type 0 where
  whole : Pkt → List ℕ → List ℕ → Front
  bad : List ℕ → List ℕ → Front
  short : Front

abbrev pub fronted : Result (Packet ℕ) ℕ → List ℕ → Front
fronted (Err _) bytes = bad (take 4 bytes) (drop 4 bytes)
fronted (Ok k) bytes =
    cond (nat_le (4 + payload_length k) (length bytes))
    (whole (with_payload k (drop 4 bytes)) (take (4 + payload_length k) bytes) (drop (4 + payload_length k) bytes)) short

unfoldable pub front : List ℕ → Front
front bytes = cond (nat_le 4 (length bytes)) (fronted (header bytes) bytes) short

-- a hexadecimal digit in lower case; any other byte stays
abbrev pub lower : ℕ → ℕ
lower b = cond (nat_le 65 b && nat_le b 70) (b + 32) b

-- bytes with their first four in lower case
abbrev pub lowered : List ℕ → List ℕ
lowered bytes = map lower (take 4 bytes) ++ drop 4 bytes

-- What is read as a packet is exactly what can be sent, up to the case of its four digits: only such bytes are read so, and all such bytes.
pub record ReadsSent (bytes : List ℕ) : Type 0 where
  pub only : (p : Pkt) (taken rest : List ℕ) → front bytes ≡ whole p taken rest → (sendable p ≡ true) × (lowered taken ≡ packet p) × (bytes ≡ taken ++ rest)
  pub all : (p : Pkt) (taken rest : List ℕ) → sendable p ≡ true → lowered taken ≡ packet p → bytes ≡ taken ++ rest → front bytes ≡ whole p taken rest

-- A whole byte string

-- the packets of a byte string as far as they go, and what is left: nothing, less than a packet, or all from a bad header on
pub record Decoded : Type 0 where
  pub packets : List Pkt
  pub left : List ℕ

abbrev pub and_more : Front → List ℕ → (List ℕ → Decoded) → Decoded
and_more (whole p taken rest) bytes more = record { packets = p ∷ (more rest).packets; left = (more rest).left }
and_more (bad taken rest) bytes more = record { packets = []; left = bytes }
and_more short bytes more = record { packets = []; left = bytes }

-- a byte string has no more packets than bytes
abbrev pub decode_in : ℕ → List ℕ → Decoded
decode_in zero bytes = record { packets = []; left = bytes }
decode_in (suc k) bytes = and_more (front bytes) bytes (decode_in k)

unfoldable pub decode : List ℕ → Decoded
decode bytes = decode_in (length bytes) bytes

abbrev pub flush_one : Pkt → ℕ
flush_one flush = 1
flush_one delimiter = 0
flush_one response_end = 0
flush_one (line payload) = 0

abbrev pub flushes_of : List Pkt → ℕ
flushes_of [] = 0
flushes_of (p ∷ ps) = flush_one p + flushes_of ps

-- how many flushes a byte string has, counted from its first byte on
abbrev pub flushes : List ℕ → ℕ
flushes bytes = flushes_of (decode bytes).packets

-- packets sent one after another
abbrev pub packets : List Pkt → List ℕ
packets [] = []
packets (p ∷ ps) = packet p ++ packets ps

abbrev pub all_sendable : List Pkt → Bool
all_sendable [] = true
all_sendable (p ∷ ps) = sendable p && all_sendable ps

-- What was sent decodes to itself, and what follows it as it does alone.
abbrev pub DecodesSent : List ℕ → Type 0
DecodesSent bytes =
    (ps : List Pkt) (rest : List ℕ) → all_sendable ps ≡ true → bytes ≡ packets ps ++ rest
    → ((decode bytes).packets ≡ ps ++ (decode rest).packets) × ((decode bytes).left ≡ (decode rest).left)

-- Areas

-- xs laid over the front of an area; what is behind stays
abbrev pub over : List ℕ → List ℕ → List ℕ
over xs area = xs ++ drop (length xs) area
