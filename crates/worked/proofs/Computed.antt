-- Two lives, by computing.
use Rattle.std.proofs.Common.{◌≡◌, true, false, [], ◌∷◌, take, codes, refl}
use Rattle.std.specs.Fmt.{digits}
use Rattle.std.specs.Str.{chars}
use Rattle.std.specs.List.{count_by}
use lib.Utf8.{encode}
use Rattle.packetline.specs.Packets.{front, decode, flushes}
use Rattle.packetline.specs.Lines.{after_prefix}
use Rattle.packetline.specs.Text.{utf8, trim_end, is_number}
use Rattle.host.specs.Parts.{parts}
use Rattle.process.specs.declared.status.Word.TheVariants.{Abort, Error}
use Rattle.process.specs.declared.status.Status.TheVariants.{Named}
use Rattle.process.specs.Gather.{gather}
use Rattle.process.specs.Masks.{with_bit, without_bit}
use Rattle.records.specs.declared.operation.Operation.TheVariants.{Clean, Smudge}
use Rattle.rules.specs.Names.{desired_names}
use Rattle.rules.specs.Answers.{passed, delayed, result, payload, finished, paths, done, failed, unfinished}
use Rattle.rules.specs.Stories.{all_given, all_sent, lists, exchanges, results, open_count, aborted, stray_applies}
use Rattle.rules.specs.Lives.{run, answers_of, is_open}
use Rattle.rules.specs.Key.{seen_calls, runner, key}
use Rattle.worked.specs.Lives.{lfs, welcome, playing, by, empty, asks, delaying, delayed_calls, aborting, aborted_calls, ExamplesStand}

delayed_answers : answers_of 16 delayed_calls empty ≡ delayed ∷ paths (record { named = 1; stored = 1; full = false }) ∷ result 0 ∷ payload (codes "hello") ∷ finished ∷ []
unfolding lfs welcome playing by empty asks delaying delayed_calls aborting aborted_calls desired_names front decode after_prefix utf8 trim_end is_number encode chars gather parts with_bit without_bit digits
delayed_answers = refl

counts : (lists ((run 16 delayed_calls empty).book 0) ≡ 1) × (exchanges ((run 16 delayed_calls empty).book 0) ≡ 1) × (results ((run 16 delayed_calls empty).book 0) ≡ 1) × (open_count ((run 16 delayed_calls empty).book 0) ≡ 0)
unfolding lfs welcome playing by empty asks delaying delayed_calls aborting aborted_calls desired_names front decode after_prefix utf8 trim_end is_number encode chars gather parts with_bit without_bit digits
counts = (refl, refl, refl, refl)

came : flushes (all_given ((run 16 delayed_calls empty).book 0)) ≡ 8
unfolding lfs welcome playing by empty asks delaying delayed_calls aborting aborted_calls desired_names front decode after_prefix utf8 trim_end is_number encode chars gather parts with_bit without_bit digits
came = refl

went : flushes (all_sent ((run 16 delayed_calls empty).book 0)) ≡ 7
unfolding lfs welcome playing by empty asks delaying delayed_calls aborting aborted_calls desired_names front decode after_prefix utf8 trim_end is_number encode chars gather parts with_bit without_bit digits
went = refl

aborted_answers : answers_of 16 aborted_calls empty ≡ result 0 ∷ payload (codes "hello") ∷ unfinished (Named Abort 5) ∷ passed ∷ failed (Named Error 5) ∷ done ∷ []
unfolding lfs welcome playing by empty asks delaying delayed_calls aborting aborted_calls desired_names front decode after_prefix utf8 trim_end is_number encode chars gather parts with_bit without_bit digits
aborted_answers = refl

aborted_clean : aborted Clean ((run 16 aborted_calls empty).book 0) ≡ true
unfolding lfs welcome playing by empty asks delaying delayed_calls aborting aborted_calls desired_names front decode after_prefix utf8 trim_end is_number encode chars gather parts with_bit without_bit digits
aborted_clean = refl

aborted_smudge : aborted Smudge ((run 16 aborted_calls empty).book 0) ≡ false
unfolding lfs welcome playing by empty asks delaying delayed_calls aborting aborted_calls desired_names front decode after_prefix utf8 trim_end is_number encode chars gather parts with_bit without_bit digits
aborted_smudge = refl

none_astray : stray_applies ((run 16 aborted_calls empty).book 0) ≡ 0
unfolding lfs welcome playing by empty asks delaying delayed_calls aborting aborted_calls desired_names front decode after_prefix utf8 trim_end is_number encode chars gather parts with_bit without_bit digits
none_astray = refl

none_open : count_by is_open (run 16 aborted_calls empty).now.world.procs ≡ 0
unfolding lfs welcome playing by empty asks delaying delayed_calls aborting aborted_calls desired_names front decode after_prefix utf8 trim_end is_number encode chars gather parts with_bit without_bit digits
none_open = refl

key_fetched : key (seen_calls 16 (take 3 delayed_calls) empty) [] ≡ runner 0 true ∷ []
unfolding lfs welcome playing by empty asks delaying delayed_calls aborting aborted_calls desired_names front decode after_prefix utf8 trim_end is_number encode chars gather parts with_bit without_bit digits
key_fetched = refl

key_delayed : key (seen_calls 16 delayed_calls empty) [] ≡ runner 0 false ∷ []
unfolding lfs welcome playing by empty asks delaying delayed_calls aborting aborted_calls desired_names front decode after_prefix utf8 trim_end is_number encode chars gather parts with_bit without_bit digits
key_delayed = refl

key_aborted : key (seen_calls 16 aborted_calls empty) [] ≡ []
unfolding lfs welcome playing by empty asks delaying delayed_calls aborting aborted_calls desired_names front decode after_prefix utf8 trim_end is_number encode chars gather parts with_bit without_bit digits
key_aborted = refl

pub examples_stand : ExamplesStand
examples_stand = record { delayed_answers = delayed_answers; counts = counts; came = came; went = went; aborted_answers = aborted_answers; aborted_clean = aborted_clean; aborted_smudge = aborted_smudge; none_astray = none_astray; none_open = none_open; key_fetched = key_fetched; key_delayed = key_delayed; key_aborted = key_aborted }
