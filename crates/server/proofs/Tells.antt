-- What a client reads of a status that was said.
use Rattle.std.proofs.Common.{◌≡◌, ℕ, true, ◌&&◌, List, [], ◌∷◌, ◌++◌, codes, IsUtf8, sym, refl, ap, ◌∙◌, subst, arith, append-nil, length-append}
use Rattle.std.proofs.lemmas.Bool.Decides.{nat_tests}
use Rattle.std.specs.Str.{chars}
use Rattle.std.proofs.Math.Utf8.{encode, encodes}
use Rattle.std.proofs.lemmas.Str.{chars-append, IsUtf8-append}
use Rattle.packetline.specs.Packets.{Pkt, Decoded, decode, packets, all_sendable}
use Rattle.packetline.specs.Lines.{kind_of, after_prefix, status}
use Rattle.packetline.specs.Text.{utf8, keep, trimmed, trim_end}
use Rattle.packetline.proofs.Decoding.{decodes_sent}
use Rattle.packetline.proofs.Texts.{utf8_decides}
use Rattle.process.specs.declared.status.Status.TheVariants.{Previous as nothing_new}
use Rattle.process.specs.Given.{ReadsAs}
use Rattle.process.specs.Statuses.{status_in, told_by, status_of, Tells}
use Rattle.process.proofs.Passes.{decode_empty}
use Rattle.server.specs.declared.response.Report.{Report}
use Rattle.server.specs.declared.response.Report.TheVariants.{Previous, Named}
use Rattle.server.specs.Responses.{sayable, report_packets, IsTold}

-- the prefix of a status line, in characters
abbrev prefix : List ℕ
prefix = codes "status="

prefix_utf8 : IsUtf8 prefix
unfolding utf8 chars encode
prefix_utf8 = (utf8_decides prefix).0 refl

prefix_chars : chars prefix ≡ prefix
unfolding chars
prefix_chars = refl

-- characters that are kept behind the prefix
kept_sign : (cs : List ℕ) → keep 61 cs ≡ 61 ∷ cs
kept_sign [] = refl
kept_sign (c ∷ cs) = refl

trimmed_prefix : (cs : List ℕ) → trimmed (prefix ++ cs) ≡ prefix ++ trimmed cs
trimmed_prefix cs = ap (λ ds. keep 115 (keep 116 (keep 97 (keep 116 (keep 117 (keep 115 ds)))))) (kept_sign (trimmed cs))

encoded_prefix : (cs : List ℕ) → encodes (prefix ++ cs) ≡ prefix ++ encodes cs
unfolding encode
encoded_prefix cs = refl

-- the end of a status line is the end of its name
trim_line : (name : List ℕ) → trim_end (prefix ++ name) ≡ prefix ++ trim_end name
unfolding trim_end
trim_line name =
    ap (λ cs. encodes (trimmed cs)) (chars-append prefix name prefix_utf8 ∙ ap (λ cs. cs ++ chars name) prefix_chars)
    ∙ ap encodes (trimmed_prefix (chars name)) ∙ encoded_prefix (trimmed (chars name))

line_utf8 : (name : List ℕ) → utf8 name ≡ true → utf8 (prefix ++ name) ≡ true
line_utf8 name u = (utf8_decides (prefix ++ name)).1 (IsUtf8-append prefix name prefix_utf8 ((utf8_decides name).0 u))

kind_status : (s : List ℕ) → kind_of (prefix ++ s) ≡ status s
unfolding after_prefix
kind_status s = refl

abbrev decoded : List Pkt → List ℕ → Decoded
decoded ps l = record { packets = ps; left = l }

-- packets that were sent decode to themselves
reads_back : (ps : List Pkt) → all_sendable ps ≡ true → ReadsAs (packets ps) ps
reads_back ps h =
    let d = decodes_sent (packets ps) ps [] h (sym (append-nil (packets ps))) in
    let all : (decode (packets ps)).packets ≡ ps = d.0 ∙ ap (λ (x : Decoded). ps ++ x.packets) decode_empty ∙ append-nil ps in
    let none : (decode (packets ps)).left ≡ [] = d.1 ∙ ap (λ (x : Decoded). x.left) decode_empty in
    ap (λ xs. decoded xs (decode (packets ps)).left) all ∙ ap (λ l. decoded ps l) none

report_sendable : (report : Report) → sayable report ≡ true → all_sendable (report_packets report) ≡ true
report_sendable Previous h = refl
report_sendable (Named name) h = let n = length-append prefix name.now in grind (arith, nat_tests)

pub is_told : (report : Report) → IsTold report
is_told Previous s h m = (reads_back (report_packets Previous) refl, record { lines = []; are = refl; texts = refl; value = m; tells = subst (Tells []) (sym m) refl })
is_told (Named name) s h (u, m) =
    let t = trim_end name.now in
    let e = trim_line name.now in (
      reads_back (report_packets (Named name)) (report_sendable (Named name) h),
      record {
        lines = (prefix ++ name.now) ∷ [];
        are = refl;
        texts = ap (λ b. b && true) (line_utf8 name.now u);
        value = m ∙ sym (ap (λ l. status_of (l ∷ [])) e ∙ ap (λ k. told_by nothing_new (status_in k)) (kind_status t));
        tells = subst (λ l. Tells (l ∷ []) s) (sym e) (subst (Tells ((prefix ++ t) ∷ [])) (sym m) ([], (t, ([], refl, tt, refl))));
      },
    )
