-- Every marked case holds, by computation on the words.
use mathlib.Core.Path.{refl}
use Rattle.words.specs.Loops.{every, some, total, joined, run, has, occurrences}
use Rattle.layout.specs.Layout.{chain, laid_out, part}
use Rattle.reader_rules.specs.Tree.{expr_node, exprs_length, include_node, paragraph_node}
use Rattle.reader_rules.specs.Identifiers.{name_of, stroke_of, is_identifier}
use Rattle.reader_rules.specs.Kinds.{of_sort, plain_ok, cell, sort_in, count_by}
use Rattle.reader_rules.specs.LowerNodes.{tower, meaning}
use Rattle.reader_rules.specs.Decode.{gather, pairs_from, makers, node_at, expr_at, pred_at, text_at, include_at, line_at, schema_at, paragraph_at, tree_of}
use Rattle.reader_rules.specs.Decode.{exprs_from, lines_from, paragraphs_from}
use Rattle.reader_rules.specs.Nodes.{nodes_among, children, uses, parent_among, parent, above}
use Rattle.reader_rules.specs.Findings.{scan, use_number}
use Rattle.reader_rules.specs.Repeats.{fresh, is_axiom_decl, globals, declared_in, parameters, schemas, repeat_number}
use Rattle.reader_rules.specs.Limits.{texts_among, is_closing, any_crowded, limit_number}
use Rattle.reader_rules.specs.Reading.{read_of}
use Rattle.types_rules.specs.Former.{and, eqs, tag, arg, identifiers, former_of, same_former}
use Rattle.types_rules.specs.Types.{under, size, term_size, Each}
use Rattle.types_rules.specs.Substitution.{or, occurs, replace, update, resolve, without, member, ground, sol}
use Rattle.types_rules.specs.Unify.{zip_terms, replace_all, weight, is_unknown, flex, rigid, unify_step, unify_level, unify_levels, unify, and_then as andThen', unify_all}
use Rattle.types_rules.specs.Classes.{zip_n, swap, rep}
use Rattle.types_rules.specs.Finite.{allb, bounded_view, bounded}
use Rattle.types_rules.specs.Classify.{both as both', meet, turn, merge_level, merge_levels, to_list, view_term, same_term, join, subs, univ, judge, classify}
use Rattle.types_rules.specs.Representative.{stands_for, representative, component_by}
use Rattle.types_rules.specs.Component.{has as has', has_type, pick, pick_type, component, component_type}
use Rattle.types_rules.specs.Instance.{nth, actual, instance_former, instance}
use Rattle.types_rules.specs.Words.{second, words}
use Rattle.checker_rules.specs.Strokes.{decorate, takes}
use Rattle.checker_rules.specs.Unknowns.{slot, row}
use Rattle.checker_rules.specs.Dictionary.{entry_words, entries, entry_pairs, all_words, laid_out_words, dictionary_words, name_in, schema_in}
use Rattle.checker_rules.specs.Signatures.{count_names, names_of, terms_of, binding_of, with_names, components_of, or_else, term_in, has_name, insert_name, merge}
use Rattle.checker_rules.specs.Signatures.{declare, stroke_all, renamed, rename_all, some_stroked, has_old, wrong_old, wrong_names}
use Rattle.checker_rules.specs.Scopes.{name_at, schema_named, with_parameters, enter, brought, include_signature, lines_signature, text_signature}
use Rattle.checker_rules.specs.Scopes.{inside, schema_signature}
use Rattle.checker_rules.specs.Conditions.{refuse_if, same_type, merge_declared, merge_names, new_name, new_names, small_types, few_names, types_of, are_powers}
use Rattle.checker_rules.specs.Conditions.{powers, members, are_members, fresh_row}
use Rattle.checker_rules.specs.Rules.{reference_items, theta_name, theta_names, type_in_scope, theta_signature, theta_items, include_rule, expr_items, schema_items}
use Rattle.checker_rules.specs.Rules.{paragraph_items}
use Rattle.checker_rules.specs.Entries.{add_givens, add_signature, extend}
use Rattle.checker_rules.specs.Solving.{join_pairs, with_component, equations_of, number_of, answer_all, pairs_unknowns}
use Rattle.checker_rules.specs.Solving.{and_then, answer, pass_if, selected, is_small, is_closed, solve_from, add_unknown, term_unknowns, unknowns, solve, valuation_of}
use Rattle.checker_rules.specs.Check.{fitting, settle, check_paragraphs, paragraphs_of, after_reading, check_of}
use Rattle.checker_rules.specs.Areas.{answer_finding, dictionary_after}
use Rattle.printer_rules.specs.Decimal.{digits, decimal}
use Rattle.printer_rules.specs.Lines.{accepted_bytes, refused_bytes, at_bytes, spaced, numbers, entry_line, dictionary_size, entry_lines, accepted_lines}
use Rattle.printer_rules.specs.Lines.{refused_line}
use Rattle.printer_rules.specs.Print.{print_of, printed_answer, printed_of}
use Rattle.values_integers.specs.Integer.{signed, word_of, kept, sum, difference, product, floor_div, floor_mod, by_divisor, quotient, remainder}
use Rattle.values.specs.Value.{count, encode}
use Rattle.values.specs.Order.{compare_word, or_else as orElse', compare, is_less, is_same, same}
use Rattle.values.specs.Givens.{elements_from, elements, small_size, size_from, size_of}
use Rattle.values.specs.Form.{element_shape, group_shape, shape_of, follows, next_fits, group_end, by_shape, value_length, is_value}
use Rattle.values.specs.SetValues.{same_value, is_in, insert_by, insert_value, apply_value}
use Rattle.states_rules.specs.Names.{names_as, line_names, paragraph_names, names_of as namesOf', document_names}
use Rattle.states_rules.specs.Decode.{values_from, value_by_shape, value_at, value_of}
use Rattle.states_rules.specs.States.{size_table, sizes_in, is_size, given_number, value_number, is_paired, entries_of, state_if, state_of, entry_from, entry_value}
use Rattle.states_rules.specs.States.{value_in}
use Rattle.evaluator_rules.specs.WordCount.{word_count}
use Rattle.evaluator_rules.specs.Operations.{image, as_integer, as_set, as_tuple, add_if, add, find_pair, keep_integer, calculate, connect, all_pass, count_if}
use Rattle.evaluator_rules.specs.Operations.{same_count}
use Rattle.evaluator_rules.specs.Outcomes.{after, ◌>>=◌, keep_if, keep}
use Rattle.evaluator_rules.specs.Environment.{pick as pick', lookup, refer}
use Rattle.evaluator_rules.specs.Assignments.{domains, next, each, assign, flow_of, truth_of, gathered}
use Rattle.evaluator_rules.specs.Rules.{among_members, stop_include, eval_expr, eval_exprs, eval_members, eval_pred, over_text, eval_lines, test_expr, test_exprs}
use Rattle.evaluator_rules.specs.Paragraphs.{then, unless, bind_givens, test_names, test_lines, run_paragraph, run_paragraphs, run_document}
use Rattle.evaluator_rules.specs.Run.{ending, run_state, run_work, run_read, run_of}
use Rattle.marked.specs.Seen.{of_check, last_node, last_words, of_run}
use Rattle.marked.specs.Marked.{marked, RowHolds, AllHold}

pub all_hold : AllHold marked
unfolding
    every some total joined run has occurrences chain laid_out part expr_node exprs_length name_of stroke_of is_identifier of_sort plain_ok cell sort_in
    count_by tower meaning gather pairs_from makers node_at expr_at pred_at text_at include_at line_at schema_at paragraph_at tree_of exprs_from lines_from
    paragraphs_from nodes_among children uses parent_among parent above scan use_number fresh is_axiom_decl globals declared_in parameters schemas
    repeat_number texts_among is_closing any_crowded limit_number read_of and eqs tag arg identifiers former_of same_former under size term_size Each or occurs
    replace update resolve without member ground sol zip_terms replace_all weight is_unknown flex rigid unify_step unify_level unify_levels unify has'
    has_type pick pick_type component component_type nth actual instance_former instance second words decorate takes slot row entry_words entries
    entry_pairs all_words laid_out_words dictionary_words name_in schema_in count_names names_of terms_of binding_of with_names components_of or_else term_in has_name
    insert_name merge declare stroke_all renamed rename_all some_stroked has_old wrong_old wrong_names name_at schema_named with_parameters enter brought
    include_signature include_node lines_signature text_signature inside schema_signature refuse_if same_type merge_declared merge_names new_name new_names
    small_types few_names types_of are_powers are_members fresh_row reference_items theta_name theta_names type_in_scope theta_signature theta_items include_rule
    expr_items schema_items paragraph_items add_givens add_signature extend paragraph_node and_then answer pass_if selected is_small is_closed solve_from
    add_unknown term_unknowns unknowns solve valuation_of fitting settle check_paragraphs paragraphs_of after_reading check_of answer_finding dictionary_after digits
    decimal accepted_bytes refused_bytes at_bytes spaced numbers entry_line dictionary_size entry_lines accepted_lines refused_line print_of printed_answer
    printed_of signed word_of kept sum difference product floor_div floor_mod by_divisor quotient remainder count encode compare_word orElse' compare is_less
    is_same same elements_from elements small_size size_from size_of element_shape group_shape shape_of follows next_fits group_end by_shape value_length is_value
    same_value is_in insert_by insert_value apply_value names_as line_names paragraph_names namesOf' document_names values_from value_by_shape value_at value_of
    size_table sizes_in is_size given_number value_number is_paired entries_of state_if state_of entry_from entry_value value_in word_count image as_integer as_set
    as_tuple add_if add find_pair keep_integer calculate connect all_pass count_if same_count after ◌>>=◌ keep_if keep pick' lookup refer domains next each
    assign flow_of truth_of gathered among_members stop_include eval_expr eval_exprs eval_members eval_pred over_text eval_lines test_expr test_exprs then unless
    bind_givens test_names test_lines run_paragraph run_paragraphs run_document ending run_state run_work run_read run_of of_check last_node last_words of_run
    marked RowHolds AllHold andThen' unify_all zip_n swap rep allb bounded_view bounded both' meet turn merge_level merge_levels to_list view_term same_term join
    subs univ judge classify stands_for representative component_by powers members join_pairs with_component equations_of number_of answer_all pairs_unknowns
all_hold = (refl, (refl, (refl, (refl, (refl, (refl, (refl, (refl, (refl, (refl, (refl, (refl, tt))))))))))))
