-- How a post's replies are printed. Assumes nothing.
--     newline              the byte that ends a line
--     numbers ns           each of the numbers in decimal, a space before each
--     journey_words a steps  `go`, begin, end, riding and rides of the answer a, ` :`, and the event numbers of the journey
--                          that it names, from the front of the step table
--     reply_words r steps  `ok`, a count, or a journey; or the words of the fault in their place
--     reply_line r steps   its line, with the byte that ends it
use Rattle.std.specs.Prelude.{ℕ, List, [], ◌∷◌, ◌++◌, Ok, Err, codes, decimal, Result}
use Rattle.std.specs.List.{flat_map}
use Rattle.faults.specs.declared.Fault.{Fault}
use Rattle.faults.specs.Numbered.{report_of, report_text}
use Rattle.journeys.specs.declared.answer.Answer.{Answer}
use Rattle.journeys.specs.Answers.{named_steps}
use Rattle.texts.specs.Pushing.{spaced_number}
use Rattle.replies.specs.declared.reply.Reply.{Reply}
use Rattle.replies.specs.declared.reply.Reply.TheVariants.{Accepted, Count, Journey}

abbrev pub newline : List ℕ
newline = 10 ∷ []

abbrev pub numbers : List ℕ → List ℕ
numbers ns = flat_map spaced_number ns

abbrev pub journey_words : Answer → List ℕ → List ℕ
journey_words a steps =
    codes "go"
    ++ (numbers (a.verdict.begin ∷ a.verdict.end ∷ a.verdict.riding ∷ a.verdict.rides ∷ []) ++ (codes " :" ++ numbers (named_steps a steps)))

abbrev pub reply_words : Result Reply Fault → List ℕ → List ℕ
reply_words (Ok Accepted) steps = codes "ok"
reply_words (Ok (Count n)) steps = decimal n
reply_words (Ok (Journey a)) steps = journey_words a steps
reply_words (Err f) steps = report_text (report_of f)

abbrev pub reply_line : Result Reply Fault → List ℕ → List ℕ
reply_line r steps = reply_words r steps ++ newline
