-- The numbers that bound a timetable, and what a post is lent and prints. Whoever reads a promise has to believe these; the constants of
-- the sources are others, each proved to be equal to its number here. Assumes nothing.
--     most_events      the most events that a timetable has
--     most_lines       the most lines that a block of lines has
--     most_stops       how many stops there can be; they are numbered from 0
--     last_stop        the highest number of a stop
--     last_minute      the last minute that a timetable has; the first is 0
--     longest_ride     the most minutes that a ride takes
--     most_number      the highest number that a command can have; it has six digits
--     board_slots      the slots of a board: two for each stop
--     event_slots      the most slots that a log or a queue needs: two for each event
--     longest_line     the most bytes of a reply's line
--     longest_text     the most bytes of a text that is put together for one call over bytes
use Rattle.std.specs.Prelude.{ℕ, ◌-◌, ◌*◌}

abbrev pub most_events : ℕ
most_events = 1024

abbrev pub most_lines : ℕ
most_lines = 32

abbrev pub most_stops : ℕ
most_stops = 256

abbrev pub last_stop : ℕ
last_stop = most_stops - 1

abbrev pub last_minute : ℕ
last_minute = 999999

abbrev pub longest_ride : ℕ
longest_ride = 1440

abbrev pub most_number : ℕ
most_number = 999999

abbrev pub board_slots : ℕ
board_slots = most_stops * 2

abbrev pub event_slots : ℕ
event_slots = most_events * 2

abbrev pub longest_line : ℕ
longest_line = 8192

abbrev pub longest_text : ℕ
longest_text = 65536
