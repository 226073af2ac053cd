-- What a line of a script tells: its first word is a letter, and behind it are numbers in decimal
-- digits, with or without a plus in front. Assumes nothing.
--     words_of line                the words of a line, between which there is one space
--     number_in k w                the number below 2 ^ k that the word w writes, none where it
--                                  writes none
--     number_or_error n f          what f makes of a number; the error where there is none
--     number_before k f ws         the first of the words ws is a number below 2 ^ k: what f makes
--                                  of it and of the words behind it; an error where there is no
--                                  word, or no such number in it
--     opening_in ws                the opening whose stop and minute are the first of the words ws
--     ride_in ws                   the ride whose stops, departure and duration they are
--     question_in ws               the question whose stops, open and close they are, and that
--                                  wants a call where a 1 comes next
--     meaning_of_letter letter ws  what a line with this letter and these words behind it tells
--     meaning_of_words ws          what a line of the words ws tells
--     line_in line                 what a line tells
--     WordsLeft s ws               the splitter s still gives the words ws
--     NumberTaken gives ws r       r is what the first of the words ws gives, by what its type's
--                                  reader gives, or the error
use Rattle.std.specs.Prelude.{◌≡◌, ℕ, ◌^◌, ◌&&◌, ◌||◌, List, [], ◌∷◌, length, Some, None, Ok, Err, Option, Result, ◌==◌, nat_lt, codes, bytes_eq, if◌then◌else◌}
use Rattle.std.specs.declared.str.Split.{Split}
use Rattle.std.specs.Char.{digit_value}
use Rattle.std.specs.Iterator.{AlwaysYields}
use Rattle.std.specs.List.{list_all, slice_split}
use Rattle.std.specs.Result.{result_map_both, result_or}
use Rattle.std.specs.Str.Iter.{split_steps}
use Rattle.std.specs.Str.Parse.{digits_value, without_leading_plus}
use Rattle.std.specs.Str.Pattern.{FindsChar}
use Rattle.records.specs.declared.event.Event.{Event}
use Rattle.records.specs.Events.{opening_event, ride_event}
use Rattle.journeys.specs.declared.query.Query.{Query}
use Rattle.scripts.specs.declared.line.DayLine.{DayLine}
use Rattle.scripts.specs.declared.line.DayLine.TheVariants.{New, Add, Withdraw, Ask}
use Rattle.scripts.specs.declared.line.LineError.{LineError}
use Rattle.scripts.specs.declared.line.LineError.TheVariants.{UnknownLetter, MissingNumber, NotANumber}

abbrev pub words_of : List ℕ → List (List ℕ)
words_of line = slice_split (λ byte. byte == 32) line

abbrev pub number_in : ℕ → List ℕ → Option ℕ
number_in k w =
    let digits = without_leading_plus w in
    if (nat_lt 0 (length digits) && list_all (λ digit. nat_lt (digit_value digit) 10) digits)
    && nat_lt (digits_value 10 digits) (2 ^ k)
    then Some (digits_value 10 digits)
    else None

abbrev pub number_or_error : {X : Type 0} → Option ℕ → (ℕ → Result X LineError) → Result X LineError
number_or_error None f = Err NotANumber
number_or_error (Some n) f = f n

abbrev pub number_before :
    {X : Type 0} → ℕ → (ℕ → List (List ℕ) → Result X LineError) → List (List ℕ)
    → Result X LineError
number_before k f [] = Err MissingNumber
number_before k f (w ∷ ws) = number_or_error (number_in k w) (λ n. f n ws)

abbrev pub opening_in : List (List ℕ) → Result Event LineError
opening_in = number_before 8 (λ stop. number_before 32 (λ minute _. Ok (opening_event stop minute)))

abbrev pub ride_in : List (List ℕ) → Result Event LineError
ride_in =
    number_before 8 (λ from. number_before 8 (λ to. number_before 32 (λ departure.
    number_before 16 (λ duration _. Ok (ride_event from to departure duration)))))

abbrev pub question_in : List (List ℕ) → Result Query LineError
question_in =
    number_before 8 (λ from. number_before 8 (λ to. number_before 32 (λ opens.
    number_before 32 (λ closes. number_before 8 (λ call _.
    Ok (record { from = from; to = to; «open» = opens; close = closes; call = call == 1 }))))))

abbrev pub meaning_of_letter : List ℕ → List (List ℕ) → Result DayLine LineError
meaning_of_letter letter ws =
    if bytes_eq letter (codes "d") then Ok New
    else if bytes_eq letter (codes "o") then result_map_both Add (λ e. e) (opening_in ws)
    else if bytes_eq letter (codes "r") then result_map_both Add (λ e. e) (ride_in ws)
    else if bytes_eq letter (codes "x") then number_before 32 (λ n _. Ok (Withdraw n)) ws
    else if bytes_eq letter (codes "j") || bytes_eq letter (codes "q")
    then result_map_both Ask (λ e. e) (question_in ws)
    else Err UnknownLetter

abbrev pub meaning_of_words : List (List ℕ) → Result DayLine LineError
meaning_of_words [] = Err UnknownLetter
meaning_of_words (letter ∷ ws) = meaning_of_letter letter ws

abbrev pub line_in : List ℕ → Result DayLine LineError
line_in line = meaning_of_words (words_of line)

abbrev pub WordsLeft : Split ℕ → List (List ℕ) → Type 0
WordsLeft s ws = AlwaysYields (split_steps FindsChar (λ a b. b ≡ a)) (λ word. word.now) s ws

abbrev pub NumberTaken :
    {T E : Type 0} → (List ℕ → Result T E → Type 0) → List (List ℕ) → Result T LineError → Type 0
NumberTaken gives [] r = r ≡ Err MissingNumber
NumberTaken {T} {E} gives (w ∷ _) r =
    (p : Result T E) × gives w p × (r ≡ result_or p (Err NotANumber))
