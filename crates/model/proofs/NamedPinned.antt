-- The definitions agree with the small lists of words that name states: by computing them. Assumes nothing.
use mathlib.Core.Path.{refl}
use Rattle.word.specs.Model.{only, any, numbers_from, is_named, exits_in, has_fast, probability_sum}
use Rattle.word.specs.Answer.{then}
use Rattle.model.specs.Reading.{last_of, unless, next_transition, next_named, next, at_words_end, read_from, lowest, first_of, read}
use Rattle.model.specs.NamedPinned.{named_readings, same_states, all_agree, NamedReadingsAgree}

pub named_readings_agree : NamedReadingsAgree
unfolding NamedReadingsAgree all_agree named_readings same_states
    read first_of lowest read_from at_words_end next next_named next_transition unless last_of then
    only any numbers_from is_named exits_in has_fast probability_sum
named_readings_agree = refl
