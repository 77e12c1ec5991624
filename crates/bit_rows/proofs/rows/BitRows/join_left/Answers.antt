use Rattle.std.proofs.Common.{◌≡◌, true, arith}
use Rattle.bit_rows.proofs.Seen.{row_below_end, join_keeps, join_high, join_seen, join_others_seen, join_new_seen}
use Rattle.bit_rows.proofs.rows.BitRows.join_left.Goals as goal

pub join_words-requires-clause-into_in_range : goal.join_words-requires-clause-into_in_range
join_words-requires-clause-into_in_range c = row_below_end _ _ _ _ _ c.self.view_is c.self.invariant c.args.into c.requires.into_in_range

pub join_words-requires-clause-from_in_range : goal.join_words-requires-clause-from_in_range
join_words-requires-clause-from_in_range c = row_below_end _ _ _ _ _ c.self.view_is c.self.invariant c.args.from c.requires.from_in_range

pub invariant_of-self : goal.invariant_of-self
invariant_of-self c = join_keeps _ _ _ _ _ c.self.view_is c.self.invariant c.args.into c.args.from c.args.but _ c.requires.into_in_range c.requires.from_in_range c.join_words.ensures.long c.join_words.ensures.joined c.join_words.ensures.others

pub returns-clause-high : goal.returns-clause-high
returns-clause-high c = join_high _ _ _ _ _ c.self.view_is c.self.invariant c.args.into c.args.from c.args.but _ c.requires.into_in_range c.requires.from_in_range c.join_words.ensures.long c.join_words.ensures.joined c.join_words.ensures.others

pub returns-clause-joined : goal.returns-clause-joined
returns-clause-joined c = join_seen _ _ _ _ _ c.self.view_is c.self.invariant c.args.into c.args.from c.args.but _ c.requires.into_in_range c.requires.from_in_range c.join_words.ensures.long c.join_words.ensures.joined c.join_words.ensures.others

pub returns-clause-others : goal.returns-clause-others
returns-clause-others c = join_others_seen _ _ _ _ _ c.self.view_is c.self.invariant c.args.into c.args.from c.args.but _ c.requires.into_in_range c.requires.from_in_range c.join_words.ensures.long c.join_words.ensures.joined c.join_words.ensures.others

pub returns-clause-changed : goal.returns-clause-changed
returns-clause-changed c = λ (new : c.join_words.result ≡ true).
    let h = c.join_words.ensures.changed new in
    join_new_seen _ _ _ _ _ c.self.view_is c.self.invariant c.args.into c.args.from c.args.but _ c.requires.into_in_range c.requires.from_in_range c.join_words.ensures.long c.join_words.ensures.joined c.join_words.ensures.others h.0 h.1 h.2 h.3
